-- Lemmas on texts put into a buffer.
pub mod Placing
pub mod Rowing
pub mod Framing
pub mod Wholes
