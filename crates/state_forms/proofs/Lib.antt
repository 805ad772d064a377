pub mod Lists
pub mod Back
pub mod ShownBack
pub mod Plain
pub mod CallsBack
