mod Planned
mod Short
mod NoRefusal
mod Batches
