pub mod Responses
pub mod Rows
pub mod Within
pub mod Echoes
pub mod EchoLaws
pub mod Written
pub mod Operated
