pub mod Kinds
pub mod AnswerTable
pub mod Written
