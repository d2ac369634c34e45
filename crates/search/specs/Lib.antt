pub mod Judging
pub mod Searches
pub mod Searchers
