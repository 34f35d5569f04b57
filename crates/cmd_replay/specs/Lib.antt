pub mod Frames
pub mod Instructions
pub mod Refusals
pub mod Replies
pub mod Place
pub mod Replay
pub mod KeptLaws
pub mod FragmentText
