pub mod Play
pub mod Free
pub mod Headline
pub mod Lines
pub mod Plays
pub mod Stops
