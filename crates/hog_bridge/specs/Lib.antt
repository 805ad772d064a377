pub mod ExamplePrograms
pub mod Examples
pub mod Laws
