pub mod Links
pub mod Lists
pub mod Order
pub mod Numbers
