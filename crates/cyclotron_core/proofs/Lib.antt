pub mod Sound
pub mod Rooms
pub mod Found
pub mod Moves
pub mod Walks
pub mod Flushed
