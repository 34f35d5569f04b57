pub mod Receiving
pub mod Gathered
pub mod Lengths
