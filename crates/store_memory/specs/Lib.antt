pub mod Took
pub mod Torn
pub mod Failing
pub mod Given
pub mod Sinks
pub mod Neighbours
pub mod Moments
pub mod Slots
