pub mod Searches
pub mod Readings
pub mod Truth
pub mod Promising
