pub mod Fitting
pub mod Rising
pub mod Searching
pub mod Standing
