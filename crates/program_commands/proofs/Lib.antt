mod FlushLaws
