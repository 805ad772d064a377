pub mod Compounds
pub mod Placing
