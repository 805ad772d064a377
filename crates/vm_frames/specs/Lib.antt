pub mod Views
pub mod Parts
pub mod Reading
pub mod Places
pub mod Order
pub mod OpenList
pub mod Room
