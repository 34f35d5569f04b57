pub mod Library
pub mod Headers
