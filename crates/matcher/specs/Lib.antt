pub mod Ready
pub mod Given
pub mod EmitLaws
pub mod EndLaws
pub mod FoldLaws
pub mod WalkedLaws
pub mod SplitLaws
