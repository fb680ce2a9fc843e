pub mod Whole
pub mod Identifiers
pub mod Moments
pub mod SystemCalls
pub mod Noted
pub mod Paths
