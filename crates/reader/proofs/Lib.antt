pub mod Via
