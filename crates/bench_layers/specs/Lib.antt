pub mod Counts
pub mod Meter
