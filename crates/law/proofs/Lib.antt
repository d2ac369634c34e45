pub mod Learning
pub mod Needing
pub mod Adding
pub mod Keeping
pub mod Leading
pub mod Answering
