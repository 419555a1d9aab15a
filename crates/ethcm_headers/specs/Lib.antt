pub mod Headers
pub mod Packets
pub mod Chains
pub mod Parted
pub mod Laws
pub mod Failures
