pub mod Place
pub mod Values
