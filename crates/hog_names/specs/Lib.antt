pub mod Numbers
pub mod Anew
pub mod Laws
pub mod Examples
