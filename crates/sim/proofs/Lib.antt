pub mod Anybody
pub mod Rests
