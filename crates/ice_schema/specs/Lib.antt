pub mod Names
pub mod Mapping
pub mod Sources
pub mod Partitions
pub mod Kinds
pub mod Projections
