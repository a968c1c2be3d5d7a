pub mod RunLaws
pub mod TextLaws
pub mod Numeral
pub mod DigitLaws
pub mod Short
pub mod Fitting
pub mod Once
