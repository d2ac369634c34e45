pub mod Splitting
pub mod Within
pub mod Carrying
pub mod Saying
pub mod Agreeing
