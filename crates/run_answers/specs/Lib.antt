pub mod Numbers
pub mod Answers
pub mod Escapes
pub mod Reports
pub mod Messages
pub mod Pieces
pub mod Puts
