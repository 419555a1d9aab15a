pub mod Stories
pub mod Passes
pub mod Turns
pub mod Holding
