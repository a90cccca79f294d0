pub mod Tail
pub mod TailLaws
