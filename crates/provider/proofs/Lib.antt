pub mod Checks
pub mod Pages
pub mod Layers
pub mod Held
