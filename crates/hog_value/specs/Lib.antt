pub mod Values
pub mod Meters
pub mod Cells
pub mod Operations
pub mod Views
pub mod Natives
