-- What is refused of one type, as the arena's answer.
-- Assumes nothing.
use Rattle.std.specs.Result.{is_err}
use Rattle.std.proofs.Common.{true, false, ◌≡◌, ◌∙◌, ℕ, ◌<◌, refl, sym, ap}
use Rattle.std.specs.Prelude as std
use Rattle.ir_records.specs.Result.{Result, ok}
use Rattle.ir_records.specs.Table.{outcome_at, first_refusal}
use Rattle.ir_records.specs.Outcome.{Outcome, Accepted, Refused}
use Rattle.ir_records.specs.Refusal.{judged, refusal, refused_by, outcome_of, at_type}
use Rattle.ir_records.specs.declared.Fault.TheVariants.{TableLength}
use Rattle.ir_records.specs.declared.TypeRefusal.{TypeRefusal}
use Rattle.ir_records.specs.declared.Refusal.{Refusal}
use Rattle.ir_records.proofs.TableLaws.{stays}

-- an answer about type i is the judgement's
pub outcome_at_type : {A : Type 0} (r : std.Result A TypeRefusal) (i : ℕ) → outcome_of (at_type r i) ≡ outcome_at i (judged r)
outcome_at_type (std.Ok u) i = refl
outcome_at_type (std.Err r) i = refl

-- the refusal that is met first is the answer
pub first_refused : {A : Type 0} (f : ℕ → Result A) (n i : ℕ) → first_refusal f i ≡ Accepted → i < n
    → (r : std.Result A TypeRefusal) → judged r ≡ f i → (e : Refusal) → at_type r i ≡ std.Err e → outcome_of {A = A} (std.Err e) ≡ first_refusal f n
first_refused f n i before below (std.Ok a) same e refused = cc
first_refused f n i before below (std.Err r) same e refused = sym (ap outcome_of refused) ∙ sym (stays f i before (ap (outcome_at i) (sym same)) n below)

-- what is no refusal accepts
pub no_refusal : {A : Type 0} (r : std.Result A Refusal) → is_err r ≡ false → outcome_of r ≡ Accepted
no_refusal (std.Ok a) e = refl
no_refusal (std.Err r) e = cc

abbrev pub IsRefused : Outcome → Type 0
IsRefused Accepted = ⊥
IsRefused (Refused number ty member detail) = Unit {0}

pub some_refusal : {A : Type 0} (r : std.Result A Refusal) → is_err r ≡ true → IsRefused (outcome_of r)
some_refusal (std.Ok a) e = cc
some_refusal (std.Err r) e = tt

-- what is answered about a type is what was judged of it
pub judged_at_type : {A : Type 0} (r : std.Result A TypeRefusal) (i : ℕ) (a : A) → at_type r i ≡ std.Ok a → judged r ≡ ok a
judged_at_type (std.Ok b) i a e = cc
judged_at_type (std.Err r) i a e = cc

-- what a call answers that is refused for its lengths or its capability word
pub refused_lengths : {A : Type 0} (r : std.Result A Refusal) (x : Refusal) → r ≡ std.Err x → x ≡ refusal TableLength 0 0 0 → outcome_of r ≡ Refused 1 0 0 0
refused_lengths r x e q = ap outcome_of e ∙ ap refused_by q
