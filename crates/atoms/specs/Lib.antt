pub mod Bits
pub mod Sets
pub mod Clauses
pub mod Assuming
