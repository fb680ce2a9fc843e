pub mod IndexLaws
pub mod Lists
pub mod PropertyLaws
pub mod SoundLaws
pub mod StepLaws
pub mod WalkLaws
