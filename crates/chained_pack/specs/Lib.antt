pub mod Chains
pub mod Format
pub mod Lawful
pub mod Laws
