pub mod Environment
mod Added
mod Rows
mod Forms
mod Shown
mod Runs
mod Faults
mod LiteralLemmas
pub mod Closed
pub mod NamedWords
mod Counts
