pub mod Actors
pub mod Charts
pub mod Ends
pub mod Named
pub mod Rows
pub mod Setting
