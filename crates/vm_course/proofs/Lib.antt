pub mod Slices
mod CodesFit
mod CodesHeaps
mod CodesMoves
mod CodesGrow
pub mod CodesBelong
pub mod OnCourseReplies
pub mod OnCourseRuns
