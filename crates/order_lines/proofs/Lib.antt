pub mod Lengths
mod Folds
