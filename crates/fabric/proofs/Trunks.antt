-- The trunks of the links.
pub mod Answers
pub mod Downs
pub mod Grants
pub mod Lines
pub mod LivingPeers
pub mod OneLink
pub mod Resting
pub mod Tells
pub mod ToldOfCalls
pub mod NoEnd
