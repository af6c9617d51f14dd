pub mod Turned
pub mod Served
pub mod Staying
pub mod Calls
