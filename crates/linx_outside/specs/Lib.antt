pub mod Counts
pub mod Told
pub mod Reading
pub mod Writing
pub mod Contents
pub mod Failures
pub mod Opening
