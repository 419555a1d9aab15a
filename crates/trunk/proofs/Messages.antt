-- What a side says and hears, word by word.
pub mod Answers
pub mod Given
pub mod Sends
pub mod HandedUp
pub mod Notes
pub mod Numbers
pub mod Offers
pub mod Publishings
pub mod Reading
pub mod OfCalls
pub mod ProperSayings
pub mod MaySend
pub mod Signals
