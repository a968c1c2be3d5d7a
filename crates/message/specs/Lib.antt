pub mod Message
pub mod MessagePlaces
pub mod AnswerReady
pub mod AnswerTold
