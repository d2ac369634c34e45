pub mod Counting
pub mod Completing
