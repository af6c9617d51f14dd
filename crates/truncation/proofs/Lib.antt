pub mod Fetches
pub mod Spans
