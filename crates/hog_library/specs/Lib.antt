pub mod Texts
pub mod Given
pub mod Cells
pub mod Natives
pub mod Called
pub mod Answers
pub mod Products
pub mod Examples
