pub mod Whole
pub mod Val
pub mod Pairs
pub mod Meaning
pub mod Shifted
pub mod Nearest
