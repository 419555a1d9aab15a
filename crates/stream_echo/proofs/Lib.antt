pub mod Saying
pub mod Decided
