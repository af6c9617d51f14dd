pub mod Seeing
pub mod Told
pub mod Taking
pub mod Turning
