mod CommandLine
mod Shortness
pub mod Serving
