pub mod Numbers
pub mod Parsing
pub mod Words
pub mod Commands
