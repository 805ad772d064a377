pub mod Course
pub mod Leases
pub mod Replies
