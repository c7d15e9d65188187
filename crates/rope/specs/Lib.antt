pub mod Pieces
pub mod PiecesLaws
pub mod Fronts
pub mod FrontLaws
pub mod PartLaws
pub mod Copies
pub mod CopiedLaws
pub mod AtLaws
