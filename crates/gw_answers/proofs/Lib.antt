pub mod Meant
pub mod Sendable
pub mod AtOnce
pub mod Arranged
pub mod Wanted
