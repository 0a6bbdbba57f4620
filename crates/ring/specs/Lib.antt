pub mod Span
pub mod Items
