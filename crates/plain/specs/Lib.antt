pub mod Counts
pub mod Plains
