pub mod Lines
pub mod Begun
pub mod Reading
pub mod Values
pub mod Stamps
pub mod Writing
pub mod Laws
pub mod Examples
