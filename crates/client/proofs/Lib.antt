pub mod Collecting
pub mod Agreement
pub mod Marks
pub mod Carried
pub mod Starting
pub mod Entries
pub mod Ordered
pub mod Taken
