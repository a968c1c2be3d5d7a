pub mod Served
pub mod FileReady
