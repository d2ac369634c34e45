pub mod Calls
pub mod Verdicts
pub mod Runs
pub mod Laws
