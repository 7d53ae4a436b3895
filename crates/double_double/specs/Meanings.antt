-- Plain and fused have the meaning. Assumes nothing.
pub use Rattle.double_double.specs.PlainMeaning.{plain_meaning}
pub use Rattle.double_double.specs.FusedMeaning.{fused_meaning}
