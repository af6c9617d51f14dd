pub mod Logs
pub mod Order
pub mod Roots
pub mod Laws
pub mod Examples
pub mod Grown
pub mod Latest
pub mod Tagging
