pub mod Weighing
pub mod AllTracks
