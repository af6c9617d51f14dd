pub mod Meaning
pub mod Fetching
pub mod Publishing
pub mod Holding
pub mod Laws
pub mod Whole
