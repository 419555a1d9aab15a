pub mod Lists
pub mod Sayings
pub mod Lookups
pub mod Changes
