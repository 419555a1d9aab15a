pub mod Records
pub mod Events
pub mod Keeping
pub mod Laws
pub mod Spelling
pub mod Notes
