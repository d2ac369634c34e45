pub mod Models
pub mod Built
pub mod Steps
pub mod Writing
