pub mod FirstMatches
mod Ranges
