pub mod Hex
pub mod Form
pub mod Draft
pub mod Wrong
pub mod Words
pub mod Lines
