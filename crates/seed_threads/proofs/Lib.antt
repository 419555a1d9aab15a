mod Joining
mod Tallied
