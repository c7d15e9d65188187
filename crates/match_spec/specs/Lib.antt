pub mod Element
pub mod Pattern
pub mod Consistent
pub mod Listing
pub mod Walk
pub mod Answer
pub mod RustSplits
