pub mod Pool
pub mod Totals
