pub mod AnswerTexts
pub mod Commands
