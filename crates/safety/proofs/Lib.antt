pub mod Agree
pub mod Discipline
pub mod Steps
pub mod Invariant
pub mod Theorem
pub mod RunWrites
pub mod Hosting
