pub mod Scaling
pub mod Horner
pub mod Exponentials
pub mod Rows
pub mod Ends
pub mod Asymptotics
pub mod Classes
pub mod Answers
