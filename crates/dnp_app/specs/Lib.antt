pub mod Control
pub mod Response
pub mod Echo
pub mod SteppedOver
pub mod Requests
pub mod Asking
pub mod Operating
pub mod Example
