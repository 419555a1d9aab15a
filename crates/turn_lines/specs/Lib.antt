pub mod Turns
pub mod Rows
pub mod Text
pub mod Reading
