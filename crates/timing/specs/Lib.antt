pub mod Integral
pub mod Time
pub mod ByBase
pub mod TimeLaws
pub mod Asked
