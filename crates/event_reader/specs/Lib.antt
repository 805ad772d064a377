pub mod Stops
pub mod Meetings
pub mod Plans
pub mod Gathering
