pub mod Cells
pub mod FieldErrors
pub mod Written
