pub mod Depths
pub mod Lists
pub mod GlobalsLemmas
pub mod DraftLemmas
pub mod Uuids
pub mod Passed
