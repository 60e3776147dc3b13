pub mod Common
pub mod EndNumbers
pub mod FewBadges
pub mod JudgedEnds
pub mod Noted
pub mod ValueSearch
mod SettleCommon
pub mod SettingKeys
pub mod TableSteps
pub mod Unvalued
pub mod ValueSteps
