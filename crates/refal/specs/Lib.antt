pub mod Export
pub mod ExportLaws
