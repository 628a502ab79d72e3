pub mod AnswerTexts
pub mod Commands
pub mod Texts
