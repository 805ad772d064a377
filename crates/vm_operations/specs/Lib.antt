pub mod Here
pub mod Seen
pub mod Kinds
pub mod Machine
pub mod Calls
pub mod Parts
