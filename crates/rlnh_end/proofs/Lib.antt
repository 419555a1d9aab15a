pub mod Saying
mod Worked
mod ByRule
mod Reading
mod Listing
mod Entries
mod ByKind
mod Bodies
