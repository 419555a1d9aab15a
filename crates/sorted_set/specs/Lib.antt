pub mod Sorted
pub mod Chunks
