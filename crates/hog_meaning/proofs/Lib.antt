pub mod Going
pub mod Calls
pub mod Trees
pub mod Turns
