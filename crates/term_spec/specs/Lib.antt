pub mod Words
pub mod Refusal
pub mod Text
pub mod Table
pub mod Term
pub mod Value
pub mod ListLaws
pub mod ValueLaws
