pub mod Deciding
pub mod Claims
pub mod Branches
