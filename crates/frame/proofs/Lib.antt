pub mod Fitting
pub mod Judging
pub mod Rows
pub mod Words
pub mod Passing
pub mod ReadBack
pub mod Accepted
pub mod Meaning
