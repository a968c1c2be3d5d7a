pub mod Layout
pub mod Seat
pub mod Well
pub mod Fits
pub mod Open
