pub mod Costs
pub mod Watched
pub mod Notes
