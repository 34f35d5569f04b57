pub mod Same
pub mod Rules
