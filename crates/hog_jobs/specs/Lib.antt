pub mod Course
pub mod Laws
pub mod CourseRuns
pub mod Inputs
pub mod Jobs
pub mod CourseLaws
pub mod Rows
