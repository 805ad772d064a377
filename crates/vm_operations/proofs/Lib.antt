mod Fit
mod Landing
mod Tops
mod Gathered
mod Answered
mod Paths
mod JumpLemmas
mod Steps
mod Making
mod Calling
mod Waits
mod Standing
pub mod Passing
