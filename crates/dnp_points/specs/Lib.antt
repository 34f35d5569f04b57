pub mod Values
pub mod Objects
pub mod Layouts
pub mod Meaning
pub mod Fields
