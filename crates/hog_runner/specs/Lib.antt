pub mod Takes
pub mod Causes
pub mod Commands
pub mod Writes
pub mod Stops
pub mod Serves
