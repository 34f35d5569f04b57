pub mod Tag
pub mod Rule
pub mod Window
pub mod Spelling
pub mod Example
pub mod Laws
