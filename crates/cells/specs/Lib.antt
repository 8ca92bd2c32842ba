pub mod Sizes
pub mod Decode
pub mod InRange
pub mod Encode
pub mod Front
