pub mod Hexing
pub mod Numbering
pub mod Cutting
pub mod Typing
pub mod Retyping
