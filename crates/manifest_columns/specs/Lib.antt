pub mod Faults
pub mod Name
pub mod Places
pub mod Shapes
pub mod Slots
pub mod Tables
pub mod Written
