pub mod State
pub mod Sound
pub mod Methods
pub mod Readers
