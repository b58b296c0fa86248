pub mod Numbers
pub mod Singles
