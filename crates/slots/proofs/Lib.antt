pub mod Finding
pub mod Requests
pub mod Renewing
