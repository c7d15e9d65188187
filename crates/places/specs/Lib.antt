pub mod Rest
pub mod LinkLaws
pub mod RestLaws
pub mod CopyLaws
pub mod Ahead
pub mod Places
pub mod PlacesLaws
pub mod ReadLaws
