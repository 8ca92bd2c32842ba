pub mod Rows
pub mod Next
pub mod Scan
pub mod Fill
