pub mod Match
pub mod RefusalLaws
pub mod StartLaws
pub mod AnswerLaws
pub mod NumberLaws
pub mod SlotLaws
pub mod ListLaws
pub mod CountLaws
