pub mod RowLemmas
pub mod GlobalsLemmas
pub mod ShortRuns
