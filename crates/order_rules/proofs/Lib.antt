pub mod Among
mod Thrown
mod Speeds
