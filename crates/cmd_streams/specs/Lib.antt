pub mod Shown
pub mod Standing
pub mod Translation
pub mod Answers
pub mod KeptLaws
