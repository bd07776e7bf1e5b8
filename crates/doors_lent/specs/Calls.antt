-- What a call that is passed in may leave in the words that it is lent, by what the call itself ensures.
-- Assumes nothing.
use Rattle.std.specs.Prelude.{◌≡◌, List, ◌++◌, ℕ, take, drop}
use Rattle.std.specs.Borrow.{MutBor}
use Rattle.std.specs.Fn.{Once}
use Rattle.doors_lent.specs.Lent.{nines}
use Rattle.doors_lent.specs.declared.Lent.{Lent}
use Rattle.doors_lent.specs.declared.Room.{Room}

-- a `&mut` to words
abbrev pub Words : Type 0
Words = MutBor (List ℕ)

abbrev pub Two : Type 0
Two = Words × (Words × Unit {0})

abbrev pub Three : Type 0
Three = Words × (Words × (Words × Unit {0}))

abbrev pub Four : Type 0
Four = Words × (Words × (Words × (Words × Unit {0})))

-- lent rows and an answer of 9, the call may leave these
pub record LeavesRows {F : Type 0} (g : Once F Two (Unit {0} × Two)) (call : F) (rows answer : List ℕ) : Type 0 where
  pub lent_rows : Words
  pub lent_answer : Words
  pub before : (lent_rows.now ≡ nines 44) × (lent_answer.now ≡ nines 5)
  pub left_rows : Words
  pub left_answer : Words
  pub met : g.post call (lent_rows, (lent_answer, tt)) (tt, (left_rows, (left_answer, tt)))
  pub after : (left_rows.now ≡ rows) × (left_answer.now ≡ answer)

-- and three words more between them
pub record LeavesFound {F : Type 0} (g : Once F Three (Unit {0} × Three)) (call : F) (rows found answer : List ℕ) : Type 0 where
  pub lent_rows : Words
  pub lent_found : Words
  pub lent_answer : Words
  pub before : (lent_rows.now ≡ nines 44) × (lent_found.now ≡ nines 3) × (lent_answer.now ≡ nines 5)
  pub left_rows : Words
  pub left_found : Words
  pub left_answer : Words
  pub met : g.post call (lent_rows, (lent_found, (lent_answer, tt))) (tt, (left_rows, (left_found, (left_answer, tt))))
  pub after : (left_rows.now ≡ rows) × (left_found.now ≡ found) × (left_answer.now ≡ answer)

-- lent the first words of four buffers of 9, so many as there is room for, a reader may leave these buffers
pub record ReadLeaves {F : Type 0} (g : Once F Four (Unit {0} × Four)) (call : F) (n : ℕ) (room : Room) (buffers : Lent n) : Type 0 where
  pub lent_types : Words
  pub lent_members : Words
  pub lent_counts : Words
  pub lent_answer : Words
  pub types_before : lent_types.now ≡ take room.types (nines n)
  pub members_before : lent_members.now ≡ take room.members (nines 10)
  pub counts_before : lent_counts.now ≡ take room.counts (nines 3)
  pub answer_before : lent_answer.now ≡ take room.answer (nines 5)
  pub left_types : Words
  pub left_members : Words
  pub left_counts : Words
  pub left_answer : Words
  pub met : g.post call (lent_types, (lent_members, (lent_counts, (lent_answer, tt)))) (tt, (left_types, (left_members, (left_counts, (left_answer, tt)))))
  pub types_after : buffers.types ≡ left_types.now ++ drop room.types (nines n)
  pub members_after : buffers.members ≡ left_members.now ++ drop room.members (nines 10)
  pub counts_after : buffers.counts ≡ left_counts.now ++ drop room.counts (nines 3)
  pub answer_after : buffers.answer ≡ left_answer.now ++ drop room.answer (nines 5)
