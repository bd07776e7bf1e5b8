-- The word of the uniform rule, by what it names.
-- Assumes nothing.
use mathlib.Core.Path.{◌≡◌, refl}
use mathlib.Core.Bool.{false}
use Prim.Native.Nat.{ℕ, ◌<◌}
use native.Mathlib.Omega.{arith}
use borrow.Author.Tests.{lt-leb, ne_eqb}
use Rattle.std.specs.Prelude.{Result, Ok, Err}
use Rattle.ir_records.specs.declared.Refusal.{Refusal}
use Rattle.ir_records.specs.Fields.{capabilities_known}
use Rattle.valid_type_info.specs.declared.UniformRule.{UniformRule}
use Rattle.valid_type_info.specs.declared.UniformRule.TheVariants.{Older, Newer}
use Rattle.valid_type_info.specs.Verdict.{rule_number, NamesRule}
use Rattle.valid_rule_word.specs.RuleWord.{rule_of, capabilities_by, named}

-- a word that names a rule
pub known_rule : (rule : UniformRule) (word : ℕ) → rule_number rule ≡ word → rule_of word ≡ rule
unfolding rule_of
known_rule Older word e = rw (← e) refl
known_rule Newer word e = rw (← e) refl

pub known_capabilities : (rule : UniformRule) (word capabilities : ℕ) → rule_number rule ≡ word → capabilities_by word capabilities ≡ capabilities
unfolding capabilities_by
known_capabilities Older word c e = rw (← e) refl
known_capabilities Newer word c e = rw (← e) refl

-- another word: no arena is asked for with a capability word that is known, so each call's answer is number 1, and the rows stay
pub unknown : (word capabilities : ℕ) → 1 < word → capabilities_known (capabilities_by word capabilities) ≡ false
unfolding capabilities_by
unknown word c h = rw (lt-leb word 1 h) refl

pub named_is : (word : ℕ) (r : Result UniformRule Refusal) → NamesRule word r → r ≡ named word
unfolding named
named_is word (Ok Older) e = rw (← e) refl
named_is word (Ok Newer) e = rw (← e) refl
named_is word (Err r) e =
    let other : word ≡ 0 → ⊥ = λ z. absurd (omega (arith, e.1, z)) in
    let no : word ≡ 1 → ⊥ = λ z. absurd (omega (arith, e.1, z)) in
    rw (ne_eqb word 0 other, ne_eqb word 1 no, e.0) refl
