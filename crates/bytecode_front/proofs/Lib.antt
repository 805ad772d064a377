pub mod Captures
pub mod Fronts
pub mod Known
pub mod Names
pub mod Numbered
pub mod Operands
pub mod Slices
pub mod Steps
mod Shown
