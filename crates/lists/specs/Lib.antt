pub mod Below
pub mod Each
pub mod Every
pub mod Rising
pub mod Options
pub mod Parts
pub mod Numbered
