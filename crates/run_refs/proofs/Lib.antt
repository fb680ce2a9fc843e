pub mod AimLaws
pub mod AimTexts
pub mod ListingLaws
pub mod ProcedureLaws
pub mod RefLaws
