pub mod Sections
pub mod Settings
pub mod Meaning
pub mod Answers
pub mod Example
