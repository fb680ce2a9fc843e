pub mod AddedLaws
pub mod FieldLaws
pub mod ListLaws
pub mod SetLaws
pub mod TakenLaws
