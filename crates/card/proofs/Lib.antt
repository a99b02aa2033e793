pub mod Transfers
pub mod Spares
pub mod Parts
pub mod Stepping
pub mod SectorBytes
