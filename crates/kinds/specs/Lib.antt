pub mod Kinds
pub mod Variables
pub mod KindLaws
