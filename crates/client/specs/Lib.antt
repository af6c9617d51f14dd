pub mod Agreeing
pub mod Told
pub mod Following
pub mod Listing
