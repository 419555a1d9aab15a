mod Few
mod Shapes
mod Passing
