-- Lemmas on the texts of offsets and of dates with times.
pub mod Checking
pub mod Clocks
pub mod Parsing
pub mod Dates
pub mod Shapes
