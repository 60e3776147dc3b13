pub mod Below
pub mod Least
pub mod Meetings
pub mod Parts
pub mod Rules
pub mod Valid
pub mod Verdicts
pub mod Violations
