pub mod Parts
pub mod InOrder
pub mod Order
pub mod PartBack
pub mod Back
