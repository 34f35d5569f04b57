pub mod Bits
pub mod Texts
pub mod Table
pub mod Steps
pub mod Memory
pub mod Within
pub mod ReportLaws
