pub mod Scalers
pub mod Inner
pub mod FrameLaws
pub mod CountLaws
