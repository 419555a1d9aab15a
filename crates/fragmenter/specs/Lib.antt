pub mod Pieces
pub mod Joining
pub mod Holding
pub mod Streams
