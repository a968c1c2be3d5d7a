pub mod Step
pub mod Passing
pub mod JudgementTold
