pub mod Leads
pub mod LedEnds
pub mod LeafInterfaces
pub mod Seen
