pub mod EdgeLaws
pub mod RangeLaws
