pub mod Whole
pub mod InOrder
pub mod Back
