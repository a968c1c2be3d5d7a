pub mod Words
pub mod Halves
pub mod Sums
pub mod Vectors
pub mod Lay
pub mod Lays
pub mod Little
pub mod Encoded
