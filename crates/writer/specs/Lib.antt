pub mod Hexes
pub mod Puts
pub mod Texts
