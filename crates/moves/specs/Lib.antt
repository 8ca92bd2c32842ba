pub mod Room
pub mod Waking
