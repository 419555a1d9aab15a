mod Shown
mod Passing
