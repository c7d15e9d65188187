pub mod Parts
pub mod JobLaws
pub mod RunLaws
