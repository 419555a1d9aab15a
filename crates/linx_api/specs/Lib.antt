pub mod Telling
pub mod Sharing
pub mod Asked
pub mod Newcomers
