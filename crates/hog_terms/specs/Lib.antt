pub mod Marks
pub mod View
pub mod Listed
pub mod Bound
