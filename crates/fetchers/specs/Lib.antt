pub mod Fetchers
