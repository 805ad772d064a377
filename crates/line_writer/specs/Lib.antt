pub mod Added
pub mod Lines
