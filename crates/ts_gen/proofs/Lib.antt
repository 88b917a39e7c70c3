pub mod Appending
pub mod Drawing
pub mod Fitting
pub mod Naming
mod SevenAtWork
