-- Laws of the reading of types: what is read on after a type inside, and one level. Assumes nothing.
use mathlib.Core.Path.{◌≡◌, ap, ◌∙◌}
use mathlib.Core.List.{List}
use Prim.Native.Nat.{ℕ, suc, ◌-◌, ◌*◌, ◌≤◌}
use native.Mathlib.Omega.{arith}
use lib.ListN.{drop}
use Rattle.ir_records.specs.Record.{type_words}
use Rattle.ir_rows.proofs.RowLaws.{drop_later}
use Rattle.wgsl_tokens.specs.Tokens.{Token}
use Rattle.std.specs.Prelude.{Result, Ok, Err, MatchResult, IsErrAnd}
use Rattle.ir_records.specs.Refusal.{number_of}
use Rattle.wgsl_grammar.specs.declared.Refusal.{Refusal}
use Rattle.wgsl_placement.specs.declared.Shape.{Shape}
use Rattle.wgsl_tables.specs.Tables.{Records, Named}
use Rattle.wgsl_types.specs.Types.{Closing, stopped, inside, type_after, type_of}
use Rattle.wgsl_types.specs.Serving.{TypeRead, refused_inside}
use Rattle.wgsl_types.specs.declared.Closed.{Closed}
use Rattle.wgsl_types.specs.declared.Unclosed.{Unclosed}
use Rattle.wgsl_types.specs.declared.Unclosed.TheVariants.{Refused, Full}

-- ---- after a type inside
pub read_on : (s : List ℕ) (room made next : ℕ) (was mid is : List ℕ) (c : Closing) (r : Result Closed Unclosed) → made ≤ next
    → drop (next * type_words) mid ≡ drop (next * type_words) was → TypeRead s room next mid is c r → TypeRead s room made was is c r
read_on s room made next was mid is c (Ok x) h kept t =
    (t.0, omega arith, t.2, t.3 ∙ drop_later mid was (next * type_words) (x.made * type_words) kept (omega (arith, t.1)))
read_on s room made next was mid is c (Err (Full e close)) h kept t = t
read_on s room made next was mid is c (Err (Refused r)) h kept t = t

-- a type inside another, or for its record: what is read on after it, or its refusal
abbrev pub InnerRead : List ℕ → (room before : ℕ) → (was is : List ℕ) → Closing → Result Closed Refusal → Type 0
InnerRead s room before was is c (Ok x) = TypeRead s room before was is c (Ok x)
InnerRead s room before was is c (Err r) = (rest : Shape → Records → List Token → Closing) → inside c rest ≡ stopped (number_of r.fault)

pub inner_read : (s : List ℕ) (room made : ℕ) (was is : List ℕ) (c : Closing) (x : Result Closed Unclosed) (y : Result Closed Refusal)
    → MatchResult x (λ v. y ≡ Ok v) (λ e. IsErrAnd y (λ r. r ≡ refused_inside e)) → TypeRead s room made was is c x → InnerRead s room made was is c y
inner_read s room made was is c (Ok v) y m t = rw m t
inner_read s room made was is c (Err (Refused q)) (Err r) m t = λ rest. rw (t, m)
inner_read s room made was is c (Err (Full e close)) (Err r) m t = λ rest. rw (t, m)
inner_read s room made was is c (Err e) (Ok v) m t = absurd m

-- ---- one level
above_zero : (n : ℕ) → (n ≡ 0 → ⊥) → n ≡ suc (n - 1)
above_zero n h = omega arith

pub type_level : (room left : ℕ) (structs : List Named) (types : Records) (ts : List Token) → (left ≡ 0 → ⊥)
    → type_of room left structs types ts ≡ type_after (type_of room (left - 1) structs) room (left - 1) structs types ts
unfolding type_of
type_level room left structs types ts h = ap (λ (k : ℕ). type_of room k structs types ts) (above_zero left h)
