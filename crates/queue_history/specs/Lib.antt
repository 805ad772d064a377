pub mod Rules
pub mod Facts
pub mod Due
pub mod Legal
pub mod Rows
