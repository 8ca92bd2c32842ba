pub mod Limits
pub mod Config
pub mod Inputs
pub mod Answers
pub mod Run
pub mod Cases
