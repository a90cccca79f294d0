pub mod Event
pub mod Inner
