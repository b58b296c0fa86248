pub mod Digits
pub mod Made
pub mod Widths
