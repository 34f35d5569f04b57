pub mod Judging
pub mod Acceptable
pub mod Refusals
pub mod Example
