pub mod Source
pub mod Stops
pub mod Prelude
pub mod Build
pub mod Placing
pub mod Program
pub mod Course
pub mod Evaluation
