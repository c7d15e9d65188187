pub mod Records
pub mod RecordLaws
pub mod Refusals
pub mod Kinds
pub mod RunLaws
