pub mod Cutting
pub mod Computed
