mod CoreLaws
