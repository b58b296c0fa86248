pub mod KeyRows
pub mod Loose
pub mod Shifts
