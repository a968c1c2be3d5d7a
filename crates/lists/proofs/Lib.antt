pub mod Below
pub mod Bits
pub mod Options
pub mod Says
pub mod Every
pub mod Rising
pub mod Parts
pub mod Library
