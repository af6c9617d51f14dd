-- What the contracts cite.
pub mod Digits
pub mod Offsets
pub mod Stamps
pub mod Laws
