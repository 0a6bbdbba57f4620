pub mod Rungs
pub mod Spans
pub mod Bringing
