pub mod Layout
pub mod Plain
pub mod Fresh
