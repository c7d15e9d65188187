pub mod Fit
pub mod Stores
pub mod FitLaws
pub mod SplitLaws
pub mod KindLaws
