pub mod Unions
pub mod Gathering
pub mod Rooted
pub mod Steps
pub mod Members
pub mod Branching
pub mod Saying
