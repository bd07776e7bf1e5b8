mod PlainLaws
