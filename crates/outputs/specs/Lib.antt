pub mod Numbers
pub mod Outputs
pub mod SheetOutputs
pub mod NumberLaws
pub mod SheetOutputLaws
