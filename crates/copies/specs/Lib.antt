pub mod Heads
pub mod Copies
