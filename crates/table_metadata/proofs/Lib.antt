pub mod EditLaws
pub mod SpellingLaws
