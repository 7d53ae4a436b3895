pub mod Lines
pub mod Comparisons
