pub mod Keywords
pub mod Grammar
pub mod Statement
pub mod Steps
pub mod Writing
pub mod Characters
pub mod Spelling
pub mod Cutting
