pub mod Drawing
pub mod Shown
pub mod Termination
pub mod Outcomes
pub mod Worlds
pub mod Steps
pub mod Pending
