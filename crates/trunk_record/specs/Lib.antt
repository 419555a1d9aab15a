pub mod Sayings
pub mod Records
pub mod Changes
pub mod Trunks
