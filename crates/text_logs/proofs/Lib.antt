pub mod Alike
pub mod Counts
pub mod Expected
pub mod Walks
