pub mod Columns
pub mod Lanes
pub mod Laws
pub mod Layers
pub mod Loads
pub mod Rows
pub mod Views
pub mod Obstacles
