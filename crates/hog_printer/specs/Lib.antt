pub mod Print
pub mod View
pub mod Laws
