-- What the contracts cite.
pub mod Calendar
pub mod Laws
