mod Slices
mod Firsts
