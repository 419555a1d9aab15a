-- What both sides said and heard, session by session.
pub mod Growing
pub mod MetPeers
pub mod Messages
pub mod Partners
pub mod Peers
pub mod Promises
pub mod Records
pub mod Silence
pub mod OneSession
pub mod Turns
