pub mod Read
pub mod ReadStatements
pub mod Gives
pub mod NamesOf
