pub mod Trunks
pub mod Packets
pub mod Steps
pub mod Laws
pub mod Grants
