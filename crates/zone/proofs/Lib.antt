pub mod Testing
pub mod Compared
