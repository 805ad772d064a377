pub mod Texts
pub mod Building
pub mod Reading
pub mod Nulled
pub mod Lines
pub mod Examples
