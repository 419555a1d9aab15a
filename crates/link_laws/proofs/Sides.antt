-- One side of one link.
pub mod Acts
pub mod Untouched
pub mod JournalWords
pub mod Brings
pub mod WordsAfterStep
pub mod Keeps
pub mod AtTheBeginning
pub mod Restarts
pub mod Silence
pub mod EffectsOfPackets
pub mod Turns
