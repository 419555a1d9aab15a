pub mod Lines
pub mod Seconds
pub mod Telling
