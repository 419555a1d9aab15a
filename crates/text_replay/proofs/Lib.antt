mod OneText
mod OneFront
mod Decided
mod Stops
