pub mod Cells
pub mod Lanes
pub mod Pasts
pub mod Keeping
pub mod Adding
pub mod Fronts
pub mod Worked
