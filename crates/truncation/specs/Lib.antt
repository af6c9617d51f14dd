pub mod Truncating
pub mod Meanings
