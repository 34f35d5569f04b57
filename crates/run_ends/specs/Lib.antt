pub mod Ends
pub mod Framed
pub mod PutOut
pub mod Said
pub mod Sent
