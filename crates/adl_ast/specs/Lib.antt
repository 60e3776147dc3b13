pub mod Codes
pub mod Counts
pub mod Forms
pub mod Seeing
pub mod Spelling
pub mod Written
