pub mod Guides
pub mod Choices
