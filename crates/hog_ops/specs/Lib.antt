pub mod Plain
pub mod Table
pub mod Elements
pub mod Valid
pub mod Stored
pub mod View
pub mod Falls
pub mod Ranges
