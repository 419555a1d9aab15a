pub mod Attached
pub mod Lengths
