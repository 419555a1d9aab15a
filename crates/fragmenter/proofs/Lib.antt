pub mod Cuts
pub mod Joins
pub mod Breaks
pub mod Streams
