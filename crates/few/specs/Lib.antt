pub mod Fews
