pub mod Held
pub mod Memory
