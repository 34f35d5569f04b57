pub mod Decimal
pub mod Front
pub mod Hex
pub mod Lines
pub mod Reading
pub mod Status
