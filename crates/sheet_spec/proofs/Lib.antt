pub mod ColumnLaws
pub mod LineLaws
pub mod SheetLaws
pub mod LaidLaws
pub mod ShownLaws
pub mod SheetExamples
pub mod AnswerExamples
