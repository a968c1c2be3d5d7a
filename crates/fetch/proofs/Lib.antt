pub mod Ranges
pub mod Facts
pub mod Judging
pub mod Sending
pub mod Fetching
pub mod Numbered
