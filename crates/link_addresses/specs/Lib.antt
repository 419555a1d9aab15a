pub mod Meanings
pub mod Finding
pub mod WayBack
