pub mod Opening
pub mod Picture
pub mod Log
pub mod Loss
pub mod Shown
pub mod Rows
pub mod Example
