mod Joins
pub mod Fine
pub mod FineLoops
pub mod FineCode
mod Lists
mod Frames
mod TreeForms
mod Targets
mod NamePops
mod BlockPops
mod ItemLoops
