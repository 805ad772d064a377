mod Lists
mod Closed
mod Places
pub mod Charges
pub mod NativeNames
pub mod Naturality
