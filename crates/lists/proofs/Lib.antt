pub mod Tests
pub mod Members
pub mod Firsts
pub mod Onces
pub mod Maps
pub mod Ranges
