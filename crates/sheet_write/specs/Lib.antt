pub mod Write
pub mod ColumnLaws
pub mod LineLaws
pub mod SheetLaws
