mod AnsweredLaws
