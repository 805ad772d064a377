pub mod Fine
pub mod Inverse
