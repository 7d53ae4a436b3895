pub mod FusedLow
