-- The plain state of a store: its parts, what rows hold after some commits, and its sessions.
pub mod Parts
pub mod Versions
pub mod Sessions
