pub mod Columns
pub mod Marks
pub mod Ties
pub mod Opened
pub mod Carried
pub mod AllTies
