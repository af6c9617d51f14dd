pub mod Names
pub mod Comparing
pub mod Laws
