pub mod Puts
pub mod RowTexts
pub mod Written
