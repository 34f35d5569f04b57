pub mod InputLaws
pub mod ClosedLaws
