pub mod OpenLaws
pub mod LatestLaws
pub mod BeyondLaws
pub mod FirstPlace
pub mod DigitLaws
pub mod NumberLaws
pub mod NameLaws
pub mod SlashLaws
