pub mod LibraryLaws
pub mod NumberLaws
pub mod Results
pub mod HeaderStep
pub mod HeaderLoop
pub mod HeaderLaws
pub mod Before
