pub mod Table
pub mod Numbers
pub mod Options
pub mod Forms
pub mod Check
