pub mod Relaying
pub mod Over
