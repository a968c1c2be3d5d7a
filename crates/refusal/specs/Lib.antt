pub mod Refusal
pub mod Numbers
