pub mod SameKeyLaws
pub mod TablesLaws
