pub mod Begun
pub mod Boots
