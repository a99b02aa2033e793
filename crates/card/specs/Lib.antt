pub mod Acts
pub mod Carrying
pub mod Blocks
pub mod Words
pub mod Calls
pub mod Steps
pub mod Rules
