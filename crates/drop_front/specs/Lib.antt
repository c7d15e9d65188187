pub mod DropFront
pub mod StopLaws
