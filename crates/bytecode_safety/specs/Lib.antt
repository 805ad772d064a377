pub mod Typed
pub mod Lacks
pub mod Laws
