mod Back
mod Clean
mod Cutting
mod Digits
mod Hexes
mod Keying
pub mod Naming
pub mod Reading
