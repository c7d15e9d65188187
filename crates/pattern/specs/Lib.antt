pub mod Records
pub mod Apart
pub mod PatternLaws
pub mod NameLaws
pub mod BindingLaws
pub mod NumberLaws
pub mod ApartLaws
