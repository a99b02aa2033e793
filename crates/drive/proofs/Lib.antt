pub mod SearchLaw
pub mod Defective
