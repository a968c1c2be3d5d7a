pub mod Open
pub mod OpenTold
