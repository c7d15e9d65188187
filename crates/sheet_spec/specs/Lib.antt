pub mod Sheet
pub mod Job
