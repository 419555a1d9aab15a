pub mod Attaches
pub mod Keys
