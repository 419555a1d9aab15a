-- What every run promises.
pub mod Arrivals
pub mod OneNode
pub mod NotifiedCloses
pub mod FromRecords
pub mod OfPackets
pub mod Stillness
pub mod Closes
