mod Calendar
mod Walks
pub mod ReadBack
