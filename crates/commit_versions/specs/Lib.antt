pub mod Opening
pub mod Latest
pub mod Digits
pub mod Names
