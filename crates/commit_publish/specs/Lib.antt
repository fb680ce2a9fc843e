pub mod Stages
pub mod Steps
pub mod Kinds
pub mod Leaves
pub mod Logs
pub mod Left
