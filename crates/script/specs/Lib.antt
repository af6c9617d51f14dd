pub mod Drafts
pub mod Scripts
pub mod Seeing
