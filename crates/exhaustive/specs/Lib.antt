pub mod Exhausts
