pub mod PlaceLemmas
pub mod FileLaws
pub mod HistoryLaws
pub mod OthersLaws
pub mod SinceLaws
