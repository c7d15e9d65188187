pub mod Node
pub mod Build
pub mod Read
pub mod RustJoin
pub mod RustDrop
