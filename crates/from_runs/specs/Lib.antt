pub mod FromRuns
pub mod RunLaws
pub mod FuseLaws
pub mod BuildLaws
