pub mod Meanings
pub mod Stacks
