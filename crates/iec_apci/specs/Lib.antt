pub mod Apdu
pub mod Stream
pub mod ApduContent
pub mod Calls
pub mod Laws
pub mod Shown
pub mod Buffer
pub mod Joined
