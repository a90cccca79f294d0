pub mod AsideLaws
pub mod Order
pub mod Own
