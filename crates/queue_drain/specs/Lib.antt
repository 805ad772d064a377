pub mod Work
pub mod Stops
pub mod Drained
pub mod Steps
