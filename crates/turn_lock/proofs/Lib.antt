mod Lists
pub mod Stories
pub mod Passes
pub mod Back
mod Places
mod Rule
mod Dealing
mod Taking
mod Giving
mod Closing
