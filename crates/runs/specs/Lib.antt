pub mod Runs
pub mod Places
pub mod Named
pub mod Moments
pub mod Laws
pub mod SoFar
pub mod Examples
