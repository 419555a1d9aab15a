mod Steps
mod Apart
