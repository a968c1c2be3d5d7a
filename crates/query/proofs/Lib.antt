pub mod OpenLaws
pub mod Once
