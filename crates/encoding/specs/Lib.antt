pub mod File
pub mod Answers
pub mod Encoding
pub mod Claims
pub mod Cases
