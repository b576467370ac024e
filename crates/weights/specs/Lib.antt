pub mod Orders
pub mod Scales
pub mod Choosing
pub mod Weighing
