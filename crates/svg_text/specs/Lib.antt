pub mod Classes
pub mod Xml
pub mod Reading
pub mod Words
pub mod Texts
pub mod Tree
pub mod Rooms
