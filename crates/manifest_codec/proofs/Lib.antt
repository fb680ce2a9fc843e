pub mod Steps
pub mod Records
pub mod Numbers
pub mod Texts
pub mod OfRows
pub mod OfEntries
pub mod Spelled
pub mod Whole
