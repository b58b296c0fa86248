pub mod Faults
pub mod Lines
pub mod Readings
pub mod RequestFaults
pub mod Requests
pub mod SettingsFaults
pub mod Tables
pub mod Words
