pub mod Bringing
pub mod Marked
