pub mod Refusals
pub mod Preludes
pub mod PreludeTexts
pub mod Places
pub mod Wholes
pub mod Nesting
pub mod Courses
pub mod Evaluating
