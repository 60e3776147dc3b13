pub mod Chain
pub mod Edges
pub mod Exits
pub mod Search
pub mod Told
pub use Rattle.flow_model.specs.Flow
