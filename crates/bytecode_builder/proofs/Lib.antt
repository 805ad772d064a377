mod Scans
mod Places
mod Builds
