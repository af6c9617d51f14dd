pub mod Places
pub mod Standing
pub mod Moving
pub mod Tracking
pub mod Telling
pub mod Promising
pub mod Going
