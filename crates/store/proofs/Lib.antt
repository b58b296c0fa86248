pub mod Answers
pub mod Keys
pub mod Laws
pub mod Places
pub mod Props
pub mod Turns
pub mod Walks
