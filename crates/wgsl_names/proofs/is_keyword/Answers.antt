-- `wgsl_names::is_keyword` meets its contract: the bytes that a pattern tests are the word. Assumes nothing.
use mathlib.Core.List.{[], ◌∷◌}
use native.Mathlib.Omega.{arith}
use Rattle.std.proofs.lemmas.Slice.Eq.{text_from_reads}
use Rattle.wgsl_names.specs.Names.{same, first_keyword, middle_keyword, last_keyword, is_keyword}
use Rattle.wgsl_names.proofs.is_keyword.Goals as goal

-- alias
pub returns-in-alias-10 : goal.returns-in-alias-10
unfolding same is_keyword first_keyword middle_keyword last_keyword
returns-in-alias-10 c = rw (text_from_reads c.args.w.now (97 ∷ 108 ∷ 105 ∷ 97 ∷ 115 ∷ []) (omega arith) (omega arith, (omega arith, (omega arith, (omega arith, (omega arith, tt))))))

-- break
pub returns-in-alias-11 : goal.returns-in-alias-11
unfolding same is_keyword first_keyword middle_keyword last_keyword
returns-in-alias-11 c = rw (text_from_reads c.args.w.now (98 ∷ 114 ∷ 101 ∷ 97 ∷ 107 ∷ []) (omega arith) (omega arith, (omega arith, (omega arith, (omega arith, (omega arith, tt))))))

-- const
pub returns-in-alias-12 : goal.returns-in-alias-12
unfolding same is_keyword first_keyword middle_keyword last_keyword
returns-in-alias-12 c = rw (text_from_reads c.args.w.now (99 ∷ 111 ∷ 110 ∷ 115 ∷ 116 ∷ []) (omega arith) (omega arith, (omega arith, (omega arith, (omega arith, (omega arith, tt))))))

-- false
pub returns-in-alias-13 : goal.returns-in-alias-13
unfolding same is_keyword first_keyword middle_keyword last_keyword
returns-in-alias-13 c = rw (text_from_reads c.args.w.now (102 ∷ 97 ∷ 108 ∷ 115 ∷ 101 ∷ []) (omega arith) (omega arith, (omega arith, (omega arith, (omega arith, (omega arith, tt))))))

-- while
pub returns-in-alias-14 : goal.returns-in-alias-14
unfolding same is_keyword first_keyword middle_keyword last_keyword
returns-in-alias-14 c = rw (text_from_reads c.args.w.now (119 ∷ 104 ∷ 105 ∷ 108 ∷ 101 ∷ []) (omega arith) (omega arith, (omega arith, (omega arith, (omega arith, (omega arith, tt))))))

-- enable
pub returns-in-alias-15 : goal.returns-in-alias-15
unfolding same is_keyword first_keyword middle_keyword last_keyword
returns-in-alias-15 c = rw (text_from_reads c.args.w.now (101 ∷ 110 ∷ 97 ∷ 98 ∷ 108 ∷ 101 ∷ []) (omega arith) (omega arith, (omega arith, (omega arith, (omega arith, (omega arith, (omega arith, tt)))))))

-- return
pub returns-in-alias-16 : goal.returns-in-alias-16
unfolding same is_keyword first_keyword middle_keyword last_keyword
returns-in-alias-16 c = rw (text_from_reads c.args.w.now (114 ∷ 101 ∷ 116 ∷ 117 ∷ 114 ∷ 110 ∷ []) (omega arith) (omega arith, (omega arith, (omega arith, (omega arith, (omega arith, (omega arith, tt)))))))

-- struct
pub returns-in-alias-17 : goal.returns-in-alias-17
unfolding same is_keyword first_keyword middle_keyword last_keyword
returns-in-alias-17 c = rw (text_from_reads c.args.w.now (115 ∷ 116 ∷ 114 ∷ 117 ∷ 99 ∷ 116 ∷ []) (omega arith) (omega arith, (omega arith, (omega arith, (omega arith, (omega arith, (omega arith, tt)))))))

-- switch
pub returns-in-alias-18 : goal.returns-in-alias-18
unfolding same is_keyword first_keyword middle_keyword last_keyword
returns-in-alias-18 c = rw (text_from_reads c.args.w.now (115 ∷ 119 ∷ 105 ∷ 116 ∷ 99 ∷ 104 ∷ []) (omega arith) (omega arith, (omega arith, (omega arith, (omega arith, (omega arith, (omega arith, tt)))))))

-- default
pub returns-in-alias-19 : goal.returns-in-alias-19
unfolding same is_keyword first_keyword middle_keyword last_keyword
returns-in-alias-19 c = rw (text_from_reads c.args.w.now (100 ∷ 101 ∷ 102 ∷ 97 ∷ 117 ∷ 108 ∷ 116 ∷ []) (omega arith) (omega arith, (omega arith, (omega arith, (omega arith, (omega arith, (omega arith, (omega arith, tt))))))))

-- discard
pub returns-in-alias-20 : goal.returns-in-alias-20
unfolding same is_keyword first_keyword middle_keyword last_keyword
returns-in-alias-20 c = rw (text_from_reads c.args.w.now (100 ∷ 105 ∷ 115 ∷ 99 ∷ 97 ∷ 114 ∷ 100 ∷ []) (omega arith) (omega arith, (omega arith, (omega arith, (omega arith, (omega arith, (omega arith, (omega arith, tt))))))))

-- continue
pub returns-in-alias-21 : goal.returns-in-alias-21
unfolding same is_keyword first_keyword middle_keyword last_keyword
returns-in-alias-21 c = rw (text_from_reads c.args.w.now (99 ∷ 111 ∷ 110 ∷ 116 ∷ 105 ∷ 110 ∷ 117 ∷ 101 ∷ []) (omega arith) (omega arith, (omega arith, (omega arith, (omega arith, (omega arith, (omega arith, (omega arith, (omega arith, tt)))))))))

-- override
pub returns-in-alias-22 : goal.returns-in-alias-22
unfolding same is_keyword first_keyword middle_keyword last_keyword
returns-in-alias-22 c = rw (text_from_reads c.args.w.now (111 ∷ 118 ∷ 101 ∷ 114 ∷ 114 ∷ 105 ∷ 100 ∷ 101 ∷ []) (omega arith) (omega arith, (omega arith, (omega arith, (omega arith, (omega arith, (omega arith, (omega arith, (omega arith, tt)))))))))

-- requires
pub returns-in-alias-23 : goal.returns-in-alias-23
unfolding same is_keyword first_keyword middle_keyword last_keyword
returns-in-alias-23 c = rw (text_from_reads c.args.w.now (114 ∷ 101 ∷ 113 ∷ 117 ∷ 105 ∷ 114 ∷ 101 ∷ 115 ∷ []) (omega arith) (omega arith, (omega arith, (omega arith, (omega arith, (omega arith, (omega arith, (omega arith, (omega arith, tt)))))))))

-- continuing
pub returns-in-alias-24 : goal.returns-in-alias-24
unfolding same is_keyword first_keyword middle_keyword last_keyword
returns-in-alias-24 c = rw (text_from_reads c.args.w.now (99 ∷ 111 ∷ 110 ∷ 116 ∷ 105 ∷ 110 ∷ 117 ∷ 105 ∷ 110 ∷ 103 ∷ []) (omega arith) (omega arith, (omega arith, (omega arith, (omega arith, (omega arith, (omega arith, (omega arith, (omega arith, (omega arith, (omega arith, tt)))))))))))

-- diagnostic
pub returns-in-alias-25 : goal.returns-in-alias-25
unfolding same is_keyword first_keyword middle_keyword last_keyword
returns-in-alias-25 c = rw (text_from_reads c.args.w.now (100 ∷ 105 ∷ 97 ∷ 103 ∷ 110 ∷ 111 ∷ 115 ∷ 116 ∷ 105 ∷ 99 ∷ []) (omega arith) (omega arith, (omega arith, (omega arith, (omega arith, (omega arith, (omega arith, (omega arith, (omega arith, (omega arith, (omega arith, tt)))))))))))

-- const_assert
pub returns-in-alias-26 : goal.returns-in-alias-26
unfolding same is_keyword first_keyword middle_keyword last_keyword
returns-in-alias-26 c = rw (text_from_reads c.args.w.now (99 ∷ 111 ∷ 110 ∷ 115 ∷ 116 ∷ 95 ∷ 97 ∷ 115 ∷ 115 ∷ 101 ∷ 114 ∷ 116 ∷ []) (omega arith) (omega arith, (omega arith, (omega arith, (omega arith, (omega arith, (omega arith, (omega arith, (omega arith, (omega arith, (omega arith, (omega arith, (omega arith, tt)))))))))))))
