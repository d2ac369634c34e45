pub mod Fitting
pub mod Owing
pub mod Running
pub mod Numbered
pub mod Unknown
pub mod Questioning
