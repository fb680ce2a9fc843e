pub mod Ancestors
pub mod Laws
pub mod Meanings
pub mod Moves
pub mod Refs
pub mod Reports
pub mod Procedures
