pub mod Places
pub mod Among
pub mod Taken
pub mod Finds
pub mod Prefixes
pub mod Walks
pub mod Gathered
