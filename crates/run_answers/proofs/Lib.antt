pub mod PutLaws
pub mod EscapeLaws
pub mod MessageLaws
