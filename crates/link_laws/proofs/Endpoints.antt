-- Endpoints: who opens, who is open, in which order.
pub mod Closings
pub mod Fresh
pub mod Makers
pub mod Names
pub mod OpenAfterStep
pub mod Orderly
pub mod Places
