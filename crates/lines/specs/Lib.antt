pub mod Lines
pub mod Printed
pub mod Cases
pub mod Page
