pub mod Lists
mod Undoing
pub mod Indexing
mod Grouping
mod Steps
