pub mod ActLaws
pub mod TellLaws
pub mod IndexLaws
pub mod SlotLaws
pub mod SlotSteps
pub mod MomentLaws
pub mod AskedLaws
