pub mod Growing
pub mod Logged
pub mod Places
pub mod Example
pub mod Views
pub mod Steps
