pub mod Kripke
pub mod Rows
pub mod Kinds
pub mod Faults
pub mod Words
pub mod Format
pub mod Rules
pub mod Reading
