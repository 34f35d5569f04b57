pub mod Quality
pub mod Image
pub mod Example
