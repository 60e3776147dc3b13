pub mod TypeFaults
pub mod WellTyped
