pub mod Shapes
pub mod Values
pub mod Shown
pub mod Calls
