pub mod Erfc
pub mod Exp
pub mod Finite
