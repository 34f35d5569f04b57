pub mod Inversion
pub mod Saying
pub mod Running
pub mod Ending
