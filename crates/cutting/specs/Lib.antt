pub mod Cutting
pub mod Outcomes
pub mod Laws
pub mod Examples
