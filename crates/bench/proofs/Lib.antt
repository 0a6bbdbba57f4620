pub mod Writing
pub mod Rewriting
