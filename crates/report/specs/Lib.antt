pub mod Failures
pub mod Summary
