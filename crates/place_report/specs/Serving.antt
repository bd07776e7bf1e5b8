-- Serves the contracts of functions inside the library: it adds nothing to what the other files say, and a reader may skip it.
-- Assumes nothing.
use Rattle.std.specs.Prelude.{Bool, true, false, not, ◌&&◌, List, [], ◌∷◌, ◌++◌, ℕ, zero, suc, ◌+◌, ◌*◌, ◌^◌, ◌<◌, ◌-◌, ◌≤◌, eqb, ltb, get_or, take, drop, ◌≡◌}
use Rattle.ir_records.specs.Result.{pick, Result, ok, require}
use Rattle.ir_records.specs.Record.{Decoded, member_type, type_inner, struct_members, decoded, type_count}
use Rattle.ir_records.specs.declared.TypeInner.{TypeInner}
use Rattle.ir_records.specs.declared.TypeInner.TheVariants.{Plain, Array, RuntimeArray, Struct, Other}
use Rattle.valid_flags.specs.Flags.{bit, host_shareable_bit}
use Rattle.ir_rows.specs.Rows.{row_word, cleared}
use Rattle.place_carried.specs.Carried.{carried, narrow, wasted}
use Rattle.place_carried.specs.Serving.{leaf_carried}
use Rattle.std.specs.Prelude.{Option, Some, None}
use Rattle.ir_records.specs.Fields.{row_words}
use Rattle.ir_records.specs.Table.{first_refusal, flat}
use Rattle.ir_records.specs.Outcome.{Outcome}
use Rattle.ir_records.specs.Outcome.{Accepted, Refused}
use Rattle.valid_type_flags.specs.TypeFlags.{is_struct}
use Rattle.valid_type_info.specs.declared.UniformRule.{UniformRule}
use Rattle.valid_type_info.specs.Verdict.{least_for}
use Rattle.valid_arena.specs.Arena.{row_at, arena}
use Rattle.place_carried.specs.Count.{sum}
use Rattle.place_report.specs.Answer.{ReportAnswer}
use Rattle.place_report.specs.Answer as answer
use Rattle.place_report.specs.declared.Totals.{Totals}
use Rattle.place_report.specs.Report.{report_width}

-- ---- 02, E1: what the code keeps of each host-shareable type in the lent report while it is made, two words: the bytes that leaves carry and 0, or
-- 0 and 1 where the type is narrow (number 27).
-- what stands in the words of type k; past them nothing is carried
abbrev pub entry_in : List ℕ → ℕ → Option ℕ
entry_in words k = pick (eqb (get_or words (k * report_width + 1) 0) 0) (Some (get_or words (k * report_width) 0)) None

abbrev pub entry_words : Option ℕ → List ℕ
entry_words (Some bytes) = bytes ∷ 0 ∷ []
entry_words None = 0 ∷ 1 ∷ []

abbrev pub pair_of : (first second : ℕ) → List ℕ
pair_of first second = first ∷ second ∷ []

-- ---- of a type, from those before it
abbrev pub times : ℕ → Option ℕ → Option ℕ
times n (Some bytes) = Some (n * bytes)
times n None = None

abbrev pub plus : Option ℕ → Option ℕ → Option ℕ
plus (Some bytes) (Some more) = Some (bytes + more)
plus (Some bytes) None = None
plus None more = None

-- of an array, by its base's
abbrev pub array_bytes : (count stride size : ℕ) → Option ℕ → Option ℕ
array_bytes count stride size base = pick (ltb stride size) None (times count base)

-- of the first j members
unfoldable pub members_bytes : (earlier : ℕ → Option ℕ) (members : List ℕ) → ℕ → Option ℕ
members_bytes earlier members zero = Some 0
members_bytes earlier members (suc j) = plus (members_bytes earlier members j) (earlier (member_type members j))

-- size: what each type measures; own: this one
unfoldable pub leaf_bytes_of : (size : ℕ → ℕ) (earlier : ℕ → Option ℕ) → TypeInner → (members : List ℕ) → (own : ℕ) → Option ℕ
leaf_bytes_of size earlier (Plain leaf) members own = Some (leaf_carried leaf own)
leaf_bytes_of size earlier (Array base count stride) members own = array_bytes count stride (size base) (earlier base)
leaf_bytes_of size earlier (RuntimeArray base stride) members own = array_bytes 1 stride (size base) (earlier base)
leaf_bytes_of size earlier (Struct count span) members own = members_bytes earlier members count
leaf_bytes_of size earlier (Other o) members own = Some 0

-- of type i, where it is host-shareable, from the rows and the report of the types before it
unfoldable pub leaf_bytes_at : (ts ms rows report : List ℕ) → (i own : ℕ) → Option ℕ
leaf_bytes_at ts ms rows report i own =
    pick (bit (row_word rows i 2) host_shareable_bit)
    (leaf_bytes_of (λ k. row_word rows k 0) (entry_in report) (type_inner ts i) (struct_members ts ms i) own)
    (Some 0)

abbrev pub is_narrow : Option ℕ → Bool
is_narrow (Some bytes) = false
is_narrow None = true

-- what it has to be: the bytes of the definition, where the type is not narrow
abbrev pub leaf_bytes : (types : ℕ → Decoded) → ℕ → Option ℕ
leaf_bytes types t = pick (narrow types t) None (Some (carried types t))

-- a 32-bit number of bytes
abbrev pub SmallBytes : Option ℕ → Type 0
SmallBytes (Some bytes) = bytes < 2 ^ 32
SmallBytes None = Unit {0}

-- what the code asks of the words, so that no sum passes 64 bits
abbrev pub Small : List ℕ → Type 0
Small words = (k : ℕ) → SmallBytes (entry_in words k)

-- ---- 02, E1: the two passes over the types, from the first up. The first keeps what leaves carry in the lent report, or ends with number 27; the second makes both counts of it.
-- the rows are those of the accepted types
pub record RowsOf (ts ms rows : List ℕ) : Type 0 where
  pub capabilities : ℕ
  pub rule : UniformRule
  pub accepted : arena capabilities ts ms ≡ Accepted
  pub words : take (type_count ts * row_words) rows ≡ flat (row_at (least_for rule) capabilities ts ms) (type_count ts)

-- what is kept of type k
abbrev pub entry_for : (ts ms rows : List ℕ) → ℕ → Option ℕ
entry_for ts ms rows k = pick (bit (row_word rows k 2) host_shareable_bit) (leaf_bytes (decoded ts ms) k) (Some 0)

abbrev pub entry_pair : (ts ms rows : List ℕ) → ℕ → List ℕ
entry_pair ts ms rows k = entry_words (entry_for ts ms rows k)

-- number 27
abbrev pub narrow_struct : (ts ms rows : List ℕ) → ℕ → Result (Unit {0})
narrow_struct ts ms rows k = require (not (is_struct (type_inner ts k) && is_narrow (entry_for ts ms rows k))) 27 0 0 (ok tt)

-- the report after the first pass
abbrev pub first_pass_words : Outcome → (ts ms rows : List ℕ) (n : ℕ) → (report : List ℕ) → List ℕ
first_pass_words Accepted ts ms rows n report = flat (entry_pair ts ms rows) n ++ drop (n * report_width) report
first_pass_words (Refused number ty member detail) ts ms rows n report = cleared report (n * report_width)

-- ---- the second pass
abbrev pub is_reported : (ts rows : List ℕ) → ℕ → Bool
is_reported ts rows k = is_struct (type_inner ts k) && bit (row_word rows k 2) host_shareable_bit

-- the counts of type k, of which leaves carry `bytes`
abbrev pub counts_of : (ts rows : List ℕ) → (k bytes : ℕ) → Totals
counts_of ts rows k bytes = pick (is_reported ts rows k) (record { carried = bytes; wasted = row_word rows k 0 - bytes }) (record { carried = 0; wasted = 0 })

abbrev pub counts_in : (ts rows report : List ℕ) → ℕ → Totals
counts_in ts rows report k = counts_of ts rows k (get_or report (k * report_width) 0)

abbrev pub counts_pair : Totals → List ℕ
counts_pair c = pair_of c.carried c.wasted

abbrev pub totals_in : (ts rows report : List ℕ) → ℕ → Totals
totals_in ts rows report n = record { carried = sum (λ k. (counts_in ts rows report k).carried) n; wasted = sum (λ k. (counts_in ts rows report k).wasted) n }

abbrev pub second_pass_words : (ts rows report : List ℕ) → ℕ → List ℕ
second_pass_words ts rows report n = flat (λ k. counts_pair (counts_in ts rows report k)) n ++ drop (n * report_width) report

-- what the code asks: no more is carried than the span has
abbrev pub Carries : (ts rows : List ℕ) → (k bytes : ℕ) → Type 0
Carries ts rows k bytes = is_reported ts rows k ≡ true → bytes ≤ row_word rows k 0

abbrev pub AllCarry : (ts rows report : List ℕ) → ℕ → Type 0
AllCarry ts rows report n = (k : ℕ) → k < n → Carries ts rows k (get_or report (k * report_width) 0)

-- ---- both
-- the counts of type k by the definitions
abbrev pub counts_for : (ts ms rows : List ℕ) → ℕ → Totals
counts_for ts ms rows k =
    pick (is_reported ts rows k) (record { carried = carried (decoded ts ms) k; wasted = wasted (decoded ts ms) k }) (record { carried = 0; wasted = 0 })

abbrev pub totals_for : (ts ms rows : List ℕ) → ℕ → ReportAnswer
totals_for ts ms rows n = answer.Totals (sum (λ k. (counts_for ts ms rows k).carried) n) (sum (λ k. (counts_for ts ms rows k).wasted) n)

abbrev pub answer_by : Outcome → ReportAnswer → ReportAnswer
answer_by Accepted totals = totals
answer_by (Refused number ty member detail) totals = answer.Refused number ty member detail

unfoldable pub fill_answer : (ts ms rows : List ℕ) → ℕ → ReportAnswer
fill_answer ts ms rows n = answer_by (first_refusal (narrow_struct ts ms rows) n) (totals_for ts ms rows n)

abbrev pub words_by : Outcome → (made : List ℕ) (n : ℕ) → (report : List ℕ) → List ℕ
words_by Accepted made n report = made ++ drop (n * report_width) report
words_by (Refused number ty member detail) made n report = cleared report (n * report_width)

unfoldable pub fill_words : (ts ms rows : List ℕ) → ℕ → (report : List ℕ) → List ℕ
fill_words ts ms rows n report = words_by (first_refusal (narrow_struct ts ms rows) n) (flat (λ k. counts_pair (counts_for ts ms rows k)) n) n report
