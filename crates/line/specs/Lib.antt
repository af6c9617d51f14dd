pub mod Fates
pub mod Sending
pub mod Examples
pub mod Lined
