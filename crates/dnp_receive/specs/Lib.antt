pub mod Delivery
pub mod Completion
pub mod Answers
pub mod Receiver
pub mod Gathering
pub mod Examples
