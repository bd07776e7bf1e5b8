-- One instruction by cases, and what the code's caller goes by.
-- Assumes nothing.
use mathlib.Core.Path.{◌≡◌, refl, sym, ◌∙◌}
use mathlib.Core.Bool.{Bool, true, false, ◌&&◌}
use mathlib.Core.List.{List}
use Prim.Native.Nat.{ℕ, ◌+◌, ◌*◌, ◌<◌}
use native.Mathlib.Omega.{arith}
use lib.Dec.{eqb, leb}
use lib.ListN.{length, replicate, length-replicate}
use borrow.Author.Tests.{leb-true}
use Rattle.std.proofs.lemmas.Bool.{and_parts}
use Rattle.ir_records.specs.Result.{ok}
use Rattle.ir_records.specs.Record.{member_words, member_count}
use Rattle.std.specs.Prelude.{Some, None}
use Rattle.spirv_words.specs.Module.{word_count, opcode, word, constant}
use Rattle.spirv_words.proofs.SearchLaws.{found_some}
use Rattle.spirv_ids.specs.Ids.{integer_before, integer_found, is_constant}
use Rattle.spirv_ids.proofs.PlaceLaws.{constant_found}
use Rattle.spirv_members.specs.Members.{member_rows}
use Rattle.spirv_types.specs.declared.Typed.{Typed}
use Rattle.spirv_types.specs.Types.{State, type_at}
use Rattle.spirv_instruction.specs.Instruction.{told_by, words_ok, row_count, fits, with_type, type_read}

-- the integer type of a constant
zero_one : ◌≡◌ {A = ℕ} 0 1 → ⊥
zero_one z = omega arith

pub no_constant : (ws : List ℕ) (at : ℕ) → None ≡ integer_found ws at → is_constant ws at ≡ false
no_constant ws at e = sym (constant_found ws at) ∙ rw (sym e) refl

pub some_constant : (ws : List ℕ) (at q : ℕ) → Some q ≡ integer_found ws at → (is_constant ws at ≡ true) × (q ≡ integer_before ws at (word ws at 1))
some_constant ws at q e = (sym (constant_found ws at) ∙ rw (sym e) refl, by (eqb (opcode ws at) constant) refl)
  where
    by : (b : Bool) → eqb (opcode ws at) constant ≡ b → q ≡ integer_before ws at (word ws at 1)
    by true h = sym (found_some _ q (rw h at e)).0
    by false h = let f = rw h at e in let z : ◌≡◌ {A = ℕ} 0 1 = cc in absurd (zero_one z)

-- a table of so many rows
abbrev pub some_rows : (n : ℕ) → List ℕ
some_rows n = replicate (n * member_words) 0

pub some-rows : (n : ℕ) → member_count (some_rows n) ≡ n
some-rows n = rw (length-replicate {A = ℕ} (n * member_words) 0) (omega arith)

module _ (t m : ℕ) (ws : List ℕ) (at : ℕ) where
  pub count_some : words_ok ws at ≡ true → 0 < word_count ws at
  unfolding words_ok
  count_some e =
      let p = and_parts (leb 1 (word_count ws at) && leb (at + word_count ws at) (length ws) && leb (told_by (opcode ws at)) (word_count ws at)) _ e in
      let q = and_parts (leb 1 (word_count ws at) && leb (at + word_count ws at) (length ws)) _ p.0 in
      leb-true 1 (word_count ws at) (and_parts (leb 1 (word_count ws at)) _ q.0).0

  module _ (s : State) where
    pub read_made : (y : Typed) → type_at ws s at ≡ ok y → fits t m ws at s ≡ true → type_read t m ws at s ≡ ok (with_type s y (member_rows ws at (row_count ws at)))
    unfolding type_read
    read_made y e f = rw (e, f)
