pub mod Names
pub mod Lists
pub mod Nodes
pub mod Links
pub mod Fitting
pub mod Losses
pub mod Worked
