mod FirstLine
mod Values
mod Runs
mod Steps
