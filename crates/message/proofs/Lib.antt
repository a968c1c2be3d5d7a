pub mod Gating
pub mod Answering
pub mod Bodies
pub mod Binding
pub mod Rows
pub mod Once
pub mod Tidy
pub mod Keeping
