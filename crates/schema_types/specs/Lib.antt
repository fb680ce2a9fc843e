pub mod Ids
pub mod Depth
pub mod Known
