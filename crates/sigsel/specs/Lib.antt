pub mod Selects
pub mod Spelling
pub mod Selection
pub mod Failures
