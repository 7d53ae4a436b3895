pub mod Figures
pub mod Rounding
