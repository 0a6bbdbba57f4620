pub mod Format
pub mod Opened
