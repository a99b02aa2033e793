pub mod Disk
pub mod Search
pub mod Defects
