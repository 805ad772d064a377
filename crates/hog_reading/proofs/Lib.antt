pub mod Climb
pub mod Unfold
pub mod ListLoops
pub mod SeveralLoop
pub mod NameRows
pub mod Placing
