pub mod Maps
pub mod Orders
pub mod Walks
