pub mod Fault
pub mod Index
pub mod Links
pub mod Steps
pub mod View
pub mod Walk
