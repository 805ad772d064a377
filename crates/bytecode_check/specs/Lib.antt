pub mod Shape
pub mod Effects
pub mod Verify
pub mod Verdict
pub mod Noted
pub mod Examples
