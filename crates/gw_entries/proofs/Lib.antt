pub mod First
pub mod Mismatches
pub mod Ranges
pub mod Told
pub mod Unknown
pub mod Words
pub mod Wrongs
