pub mod Orders
pub mod Listing
pub mod Queue
pub mod Changes
pub mod Puts
pub mod Refusals
pub mod Flushes
