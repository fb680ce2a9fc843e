pub mod Conditions
pub mod Edits
pub mod MetaIs
pub mod Spelling
