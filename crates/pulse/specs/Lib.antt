pub mod Pulse
pub mod Inner
pub mod PulseLaws
