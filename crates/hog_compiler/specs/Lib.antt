pub mod Pieces
pub mod Code
pub mod AddsCode
pub mod Itself
pub mod Examples
