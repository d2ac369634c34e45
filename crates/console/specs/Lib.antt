pub mod Faults
pub mod Words
pub mod Pieces
pub mod Splitting
pub mod Lines
pub mod Carrying
pub mod Laws
