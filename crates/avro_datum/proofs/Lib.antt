pub mod Schemas
pub mod NoBytes
pub mod Puts
pub mod Carrying
pub mod Found
pub mod Again
pub mod Values
pub mod Public
