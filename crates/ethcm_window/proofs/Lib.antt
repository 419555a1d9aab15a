pub mod Numbering
pub mod Keeping
pub mod Storing
