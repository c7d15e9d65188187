pub mod Check
pub mod CheckLaws
pub mod Blocks
pub mod BlockLaws
pub mod Equal
pub mod Store
pub mod EqualLaws
