pub mod Master
pub mod Fragments
pub mod Answers
pub mod Example
