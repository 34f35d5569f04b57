pub mod Cutting
pub mod Lengths
pub mod LookingBack
pub mod ReadBack
pub mod WholeRuns
