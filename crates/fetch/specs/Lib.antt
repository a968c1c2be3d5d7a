pub mod Request
pub mod Asking
pub mod Fetch
pub mod FetchReady
pub mod FetchTold
