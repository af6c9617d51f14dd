pub mod Chains
pub mod Clipping
pub mod Seen
pub mod Room
pub mod Fits
pub mod Kept
