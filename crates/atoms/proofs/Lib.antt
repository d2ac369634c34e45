pub mod Members
pub mod Lowest
pub mod Below
pub mod Counts
pub mod Making
pub mod Obeying
pub mod Restricting
pub mod Marked
