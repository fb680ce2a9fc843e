pub mod Found
pub mod Types
