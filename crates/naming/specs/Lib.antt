pub mod Numbers
pub mod Marks
pub mod Walk
pub mod Order
pub mod Names
pub mod Levels
pub mod TakenIn
pub mod Tables
