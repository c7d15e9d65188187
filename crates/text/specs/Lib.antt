pub mod Texts
pub mod Kinds
pub mod TextLaws
pub mod LowerTable
pub mod NumberLaws
