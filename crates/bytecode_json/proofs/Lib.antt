mod Back
mod Same
mod Decoded
mod Sized
mod Written
