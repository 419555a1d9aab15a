mod Numbers
mod Makers
mod Comments
mod Scripts
mod Spelled
mod Again
