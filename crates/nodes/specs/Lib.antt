pub mod NodeStore
pub mod RuleLaws
pub mod Complete
pub mod MakeLaws
pub mod WriteLaws
pub mod CompleteLaws
