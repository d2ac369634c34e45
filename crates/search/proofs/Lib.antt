pub mod Clausewise
pub mod Soundness
pub mod AllOut
