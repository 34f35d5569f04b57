pub mod Rousing
pub mod Lateness
pub mod Replies
pub mod Endings
pub mod Refusals
pub mod Tells
pub mod Example
pub mod Reasons
