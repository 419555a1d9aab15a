pub mod Lists
pub mod Placed
pub mod Numbered
pub mod Rested
