pub mod Fault
pub mod Fields
pub mod Float
pub mod Form
pub mod Key
pub mod Path
