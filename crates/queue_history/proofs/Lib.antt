pub mod Push
pub mod Places
pub mod Step
pub mod Enqueue
pub mod Steps
pub mod First
mod Examples
