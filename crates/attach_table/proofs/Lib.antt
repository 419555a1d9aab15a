mod Finding
mod Rooms
