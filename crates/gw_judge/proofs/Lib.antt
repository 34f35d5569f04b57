pub mod Found
pub mod Objects
pub mod Addresses
pub mod Accepted
pub mod Refused
pub mod Refusals
