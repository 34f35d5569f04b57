pub mod Intents
pub mod Selections
pub mod Orders
pub mod Controls
pub mod Example
pub mod Moves
pub mod Held
