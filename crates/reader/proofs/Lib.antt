pub mod Reach
pub mod RequestLaw
pub mod SettingsLaw
pub mod SettingsLines
pub mod Splits
pub mod Sums
pub mod Told
pub mod Turns
