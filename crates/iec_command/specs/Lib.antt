pub mod Commands
pub mod Example
