pub mod Versions
pub mod Readings
pub mod Tables
pub mod Commits
pub mod Steady
pub mod Listings
pub mod Mannered
pub mod Runs
