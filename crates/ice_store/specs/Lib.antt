pub mod Places
pub mod Files
pub mod History
pub mod Others
pub mod Calls
pub mod Given
pub mod Since
pub mod Numbers
