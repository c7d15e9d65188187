pub mod Turn
pub mod TurnLaws
pub mod DownLaws
