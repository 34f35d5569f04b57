pub mod Failed
pub mod Framing
pub mod Runs
pub mod Follow
pub mod Worked
pub mod Whole
pub mod Spelled
pub mod Saying
