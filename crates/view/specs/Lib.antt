pub mod Check
pub mod CheckLaws
pub mod StepLaws
pub mod GrowLaws
pub mod JoinedLaws
pub mod ChainedLaws
