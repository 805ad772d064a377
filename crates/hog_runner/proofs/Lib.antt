pub mod TakesLemmas
pub mod ServesLemmas
pub mod WordLemmas
pub mod TopLemmas
