pub mod Numbers
pub mod Marks
pub mod Table
pub mod Lends
