pub mod Read
pub mod LineLaws
pub mod SheetLaws
pub mod NumberLaws
