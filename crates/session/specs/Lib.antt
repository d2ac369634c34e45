pub mod View
pub mod Faults
pub mod Words
pub mod Replies
pub mod Defined
pub mod Effects
pub mod Runs
pub mod Assumed
