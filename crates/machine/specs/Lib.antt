pub mod Makes
pub mod SetUp
pub mod Tracks
pub mod Freshness
pub mod Refusals
pub mod Sums
