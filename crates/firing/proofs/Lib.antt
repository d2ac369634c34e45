pub mod Folding
pub mod Gathering
pub mod Rising
pub mod Choosing
pub mod FromCores
