pub mod Conditions
pub mod Edits
pub mod Sets
