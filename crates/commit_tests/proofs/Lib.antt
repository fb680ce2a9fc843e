pub mod MainLaws
pub mod PublishingLaws
