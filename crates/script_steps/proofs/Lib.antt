pub mod PlayLemmas
pub mod FreeLemmas
pub mod HeadlineLemmas
pub mod Snoc
pub mod LineLemmas
