pub mod FirstWords
pub mod Naming
pub mod ToldNames
pub mod OtherNames
pub mod Numbering
