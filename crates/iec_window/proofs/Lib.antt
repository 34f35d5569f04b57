pub mod Numbers
pub mod WholeConnection
pub mod Right
