pub mod Operators
pub mod World
pub mod Meaning
pub mod Program
pub mod Laws
pub mod Examples
