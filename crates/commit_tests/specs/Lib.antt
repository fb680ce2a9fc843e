pub mod Mains
pub mod Publishing
