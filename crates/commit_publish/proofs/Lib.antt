pub mod StageLaws
pub mod CallLaws
pub mod Working
pub mod LeftLaws
pub mod PublishLaws
pub mod TakenLaws
