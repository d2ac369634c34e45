pub mod Pages
pub mod Verdicts
pub mod Words
