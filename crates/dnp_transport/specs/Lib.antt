pub mod Segment
pub mod Fragment
pub mod Series
pub mod Runs
pub mod Cut
