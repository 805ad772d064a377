pub mod Destinations
pub mod Seen
