mod Parts
mod Turns
mod Named
mod Settled
