pub mod Counts
pub mod Sequence
pub mod Timers
pub mod Steps
pub mod View
pub mod Examples
pub mod History
