pub mod Fates
pub mod Told
pub mod Example
