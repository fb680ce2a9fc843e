pub mod Shorts
pub mod Heads
