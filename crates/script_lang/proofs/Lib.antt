pub mod Lists
pub mod Verdicts
pub mod Keeps
pub mod Commands
pub mod Copies
pub mod Room
pub mod Folds
pub mod Sizes
