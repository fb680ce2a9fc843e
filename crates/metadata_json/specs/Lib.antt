pub mod Edits
pub mod Fields
