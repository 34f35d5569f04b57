pub mod Accepted
pub mod Log
pub mod Up
pub mod Life
pub mod Confirmations
pub mod Example
