pub mod Zones
pub mod Snapshots
pub mod Laws
pub mod Meant
