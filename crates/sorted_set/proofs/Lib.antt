pub mod Placing
pub mod Chunking
pub mod Walking
