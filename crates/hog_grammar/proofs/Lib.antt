mod Examples
pub mod Sizes
pub mod Utf8
pub mod Meaning
