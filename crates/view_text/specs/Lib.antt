pub mod Graphs
pub mod Html
pub mod Pictures
pub mod Spots
