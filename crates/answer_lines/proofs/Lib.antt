mod AnswerTable
