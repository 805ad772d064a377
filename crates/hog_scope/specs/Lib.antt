pub mod Words
pub mod Scopes
pub mod Events
pub mod Stops
pub mod Literals
pub mod Environment
