pub mod Plain
pub mod View
pub mod Count
pub mod Names
pub mod Nesting
