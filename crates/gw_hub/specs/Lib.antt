pub mod Hub
pub mod View
