pub mod Keeping
pub mod Stepping
pub mod Laws
pub mod Examples
