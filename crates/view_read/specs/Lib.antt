pub mod Read
pub mod CompareLaws
pub mod PlaceLaws
pub mod FlatLaws
