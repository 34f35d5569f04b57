pub mod Anybody
