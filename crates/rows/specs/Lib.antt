pub mod Cells
pub mod KeyRows
pub mod LooseRows
