pub mod Meanings
pub mod Ties
pub mod Talks
