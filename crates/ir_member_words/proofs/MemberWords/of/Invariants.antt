-- At index i the first i records stand in the words, four words each. Measure: the records to come.
use Rattle.std.proofs.Common.{◌≡◌, ◌*◌, length, take}
use Rattle.ir_records.specs.Record.{member_words}
use Rattle.ir_member_words.specs.Flat.{flat}
use Rattle.ir_member_words.proofs.MemberWords.of.Given as goal

abbrev pub invariant-loop-i : goal.invariant-loop-i
invariant-loop-i l = record {
  size : length l.words ≡ 16388;
  copied : take (l.i * member_words) l.words ≡ flat (take l.i l.ms);
}
