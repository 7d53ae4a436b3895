pub mod Alternating
pub mod AlternatingMeaning
