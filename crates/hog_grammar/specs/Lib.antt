pub mod Bytes
pub mod Pieces
pub mod Faults
pub mod Terminal
pub mod Forms
pub mod Spelling
pub mod Laws
pub mod Names
