mod Escapes
mod Pieces
mod Lists
mod Joins
mod TextLemmas
pub mod NulledLemmas
mod KeysLemmas
pub mod ReadingLemmas
pub mod Naturality
pub mod Growing
