pub mod Elements
pub mod Front
pub mod Reading
pub mod Views
