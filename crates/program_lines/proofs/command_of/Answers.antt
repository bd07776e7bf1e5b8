-- `program_lines::command_of` meets its contract: the bytes that an arm tests are the word. Assumes nothing.
use mathlib.Core.List.{[], ◌∷◌}
use native.Mathlib.Omega.{arith}
use Rattle.std.proofs.lemmas.Slice.Eq.{text_from_reads}
use Rattle.program_lines.specs.Line.{command_of, later_command_of, answer_command_of, last_command_of}
use Rattle.program_lines.proofs.command_of.Goals as goal

pub returns-in-judge : goal.returns-in-judge
unfolding command_of later_command_of answer_command_of last_command_of
returns-in-judge c = rw (text_from_reads c.args.word.now (106 ∷ 117 ∷ 100 ∷ 103 ∷ 101 ∷ []) (omega arith) (omega arith, (omega arith, (omega arith, (omega arith, (omega arith, tt))))))

pub returns-in-check : goal.returns-in-check
unfolding command_of later_command_of answer_command_of last_command_of
returns-in-check c = rw (text_from_reads c.args.word.now (99 ∷ 104 ∷ 101 ∷ 99 ∷ 107 ∷ []) (omega arith) (omega arith, (omega arith, (omega arith, (omega arith, (omega arith, tt))))))

pub returns-in-clear : goal.returns-in-clear
unfolding command_of later_command_of answer_command_of last_command_of
returns-in-clear c = rw (text_from_reads c.args.word.now (99 ∷ 108 ∷ 101 ∷ 97 ∷ 114 ∷ []) (omega arith) (omega arith, (omega arith, (omega arith, (omega arith, (omega arith, tt))))))

pub returns-in-slots : goal.returns-in-slots
unfolding command_of later_command_of answer_command_of last_command_of
returns-in-slots c = rw (text_from_reads c.args.word.now (115 ∷ 108 ∷ 111 ∷ 116 ∷ 115 ∷ []) (omega arith) (omega arith, (omega arith, (omega arith, (omega arith, (omega arith, tt))))))

pub returns-in-short : goal.returns-in-short
unfolding command_of later_command_of answer_command_of last_command_of
returns-in-short c = rw (text_from_reads c.args.word.now (115 ∷ 104 ∷ 111 ∷ 114 ∷ 116 ∷ []) (omega arith) (omega arith, (omega arith, (omega arith, (omega arith, (omega arith, tt))))))

pub returns-in-range : goal.returns-in-range
unfolding command_of later_command_of answer_command_of last_command_of
returns-in-range c = rw (text_from_reads c.args.word.now (114 ∷ 97 ∷ 110 ∷ 103 ∷ 101 ∷ []) (omega arith) (omega arith, (omega arith, (omega arith, (omega arith, (omega arith, tt))))))

pub returns-in-place : goal.returns-in-place
unfolding command_of later_command_of answer_command_of last_command_of
returns-in-place c = rw (text_from_reads c.args.word.now (112 ∷ 108 ∷ 97 ∷ 99 ∷ 101 ∷ []) (omega arith) (omega arith, (omega arith, (omega arith, (omega arith, (omega arith, tt))))))

pub returns-in-plain : goal.returns-in-plain
unfolding command_of later_command_of answer_command_of last_command_of
returns-in-plain c = rw (text_from_reads c.args.word.now (112 ∷ 108 ∷ 97 ∷ 105 ∷ 110 ∷ []) (omega arith) (omega arith, (omega arith, (omega arith, (omega arith, (omega arith, tt))))))

pub returns-in-order : goal.returns-in-order
unfolding command_of later_command_of answer_command_of last_command_of
returns-in-order c = rw (text_from_reads c.args.word.now (111 ∷ 114 ∷ 100 ∷ 101 ∷ 114 ∷ []) (omega arith) (omega arith, (omega arith, (omega arith, (omega arith, (omega arith, tt))))))

pub returns-in-member : goal.returns-in-member
unfolding command_of later_command_of answer_command_of last_command_of
returns-in-member c = rw (text_from_reads c.args.word.now (109 ∷ 101 ∷ 109 ∷ 98 ∷ 101 ∷ 114 ∷ []) (omega arith) (omega arith, (omega arith, (omega arith, (omega arith, (omega arith, (omega arith, tt)))))))

pub returns-in-layout : goal.returns-in-layout
unfolding command_of later_command_of answer_command_of last_command_of
returns-in-layout c = rw (text_from_reads c.args.word.now (108 ∷ 97 ∷ 121 ∷ 111 ∷ 117 ∷ 116 ∷ []) (omega arith) (omega arith, (omega arith, (omega arith, (omega arith, (omega arith, (omega arith, tt)))))))

pub returns-in-report : goal.returns-in-report
unfolding command_of later_command_of answer_command_of last_command_of
returns-in-report c = rw (text_from_reads c.args.word.now (114 ∷ 101 ∷ 112 ∷ 111 ∷ 114 ∷ 116 ∷ []) (omega arith) (omega arith, (omega arith, (omega arith, (omega arith, (omega arith, (omega arith, tt)))))))

pub returns-in-choose : goal.returns-in-choose
unfolding command_of later_command_of answer_command_of last_command_of
returns-in-choose c = rw (text_from_reads c.args.word.now (99 ∷ 104 ∷ 111 ∷ 111 ∷ 115 ∷ 101 ∷ []) (omega arith) (omega arith, (omega arith, (omega arith, (omega arith, (omega arith, (omega arith, tt)))))))

pub returns-in-members : goal.returns-in-members
unfolding command_of later_command_of answer_command_of last_command_of
returns-in-members c = rw (text_from_reads c.args.word.now (109 ∷ 101 ∷ 109 ∷ 98 ∷ 101 ∷ 114 ∷ 115 ∷ []) (omega arith) (omega arith, (omega arith, (omega arith, (omega arith, (omega arith, (omega arith, (omega arith, tt))))))))
