pub mod RefusalLaws
pub mod KindLaws
