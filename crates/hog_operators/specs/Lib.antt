pub mod Tests
pub mod Numbers
pub mod Pairs
pub mod Settles
