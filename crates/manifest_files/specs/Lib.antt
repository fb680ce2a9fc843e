pub mod Files
pub mod Partitions
pub mod Written
