mod Slices
mod Nexts
mod NextReply
mod Leased
