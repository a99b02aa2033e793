pub mod Memory
pub mod Makes
