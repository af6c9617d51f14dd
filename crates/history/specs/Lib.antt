pub mod Cells
pub mod Steps
pub mod Histories
pub mod Promises
pub mod Sources
