-- Lemmas on dates and seconds.
pub mod Closed
pub mod Exists
pub mod Sum
pub mod Unique
