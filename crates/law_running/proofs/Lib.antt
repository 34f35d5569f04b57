pub mod Keeping
pub mod Handing
