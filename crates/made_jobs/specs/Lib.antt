pub mod Made
pub mod Stops
pub mod Jobs
pub mod Laws
