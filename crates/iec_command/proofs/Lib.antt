pub mod Octets
pub mod Again
pub mod Spelled
pub mod Changed
