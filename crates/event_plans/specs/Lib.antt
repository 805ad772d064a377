pub mod Members
pub mod Event
pub mod Function
pub mod Draft
pub mod Drafts
