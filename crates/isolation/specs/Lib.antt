pub mod Sharing
pub mod Isolated
pub mod Unseen
pub mod Bridges
pub mod Tests
pub mod Cases
