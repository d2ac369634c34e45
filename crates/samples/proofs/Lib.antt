pub mod Meeting
pub mod Holding
pub mod Sources
pub mod Placing
pub mod Counting
pub mod Cases
