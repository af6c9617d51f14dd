pub mod Intervals
pub mod Refusals
pub mod Rows
pub mod Tables
pub mod Comparing
pub mod Laws
pub mod Observances
