-- 02, E7: 'If one member grows by d bytes and its alignment holds, the span grows by no more than d rounded up to the struct's alignment, and no
-- offset falls.' Said of members of any number, as the reader places them; and of the structs of texts.
-- Assumes nothing.
use Rattle.std.specs.Prelude.{◌≡◌, List, [], ◌∷◌, ℕ, zero, suc, ◌+◌, ◌≤◌, ◌<◌, length, get_or}
use Rattle.ir_records.specs.Record.{member_offset, decoded}
use Rattle.ir_records.specs.declared.TypeInner.TheVariants.{Struct}
use Rattle.proc_alignment.specs.Alignment.{Power, round_up}
use Rattle.wgsl_tokens.specs.Tokens.{Token}
use Rattle.wgsl_grammar.specs.Grammar.{read}
use Rattle.wgsl_placement.specs.declared.Shape.{Shape}
use Rattle.wgsl_tables.specs.Tables.{Named}
use Rattle.wgsl_members.specs.Members.{Members}
use Rattle.wgsl_structs.specs.Structs.{Declared, start_of, span_of}
use Rattle.wgsl_read.specs.Text.{text_of}
use Rattle.wgsl_growth.specs.Written.{Each, Written, align_of, size_of, placed_after, offsets_after, Extends}

-- ---- one member grows
abbrev pub Alike : (w v : Written) → Type 0
Alike w v = (align_of v ≡ align_of w) × (size_of v ≡ size_of w)

-- as many, and all alike
abbrev pub AllAlike : (ws vs : List Written) → Type 0
AllAlike [] [] = Unit {0}
AllAlike [] (v ∷ vs) = ⊥
AllAlike (w ∷ ws) [] = ⊥
AllAlike (w ∷ ws) (v ∷ vs) = Alike w v × AllAlike ws vs

-- member i has d bytes more and the same alignment, the others are alike
abbrev pub Grows : (i d : ℕ) → (ws vs : List Written) → Type 0
Grows i d [] vs = ⊥
Grows i d (w ∷ ws) [] = ⊥
Grows zero d (w ∷ ws) (v ∷ vs) = (align_of v ≡ align_of w) × (size_of v ≡ size_of w + d) × AllAlike ws vs
Grows (suc i) d (w ∷ ws) (v ∷ vs) = Alike w v × Grows i d ws vs

-- ---- what it says of members ws placed after m, and of vs, in which one is d bytes larger, placed after n
pub record Growth (d : ℕ) (m : Members) (ws : List Written) (n : Members) (vs : List Written) : Type 0 where
  pub no_more : span_of (placed_after n vs) ≤ span_of (placed_after m ws) + round_up (placed_after m ws).align d
  pub no_less : span_of (placed_after m ws) ≤ span_of (placed_after n vs)
  pub offsets : (j : ℕ) → get_or (offsets_after m ws) j 0 ≤ get_or (offsets_after n vs) j 0

-- of any members whose alignments are powers of two, in a struct of any two texts
abbrev pub GrowthOfMembers : Type 0
GrowthOfMembers =
    (i d : ℕ) (a b : Declared) (s t : List Token) (ws vs : List Written) → Each (λ w. Power (align_of w)) ws → Grows i d ws vs
    → Growth d (start_of a s) ws (start_of b t) vs

-- ---- a struct of a text, in whatever tables start with the text's records: its members, with what was declared before them, and its record and rows
pub record StructIn (ts ms : List ℕ) (e : Shape) : Type 0 where
  pub before : Declared
  pub tokens : List Token
  pub members : List Written
  pub powers : Each (λ w. Power (align_of w)) members
  pub align : e.align ≡ (placed_after (start_of before tokens) members).align
  pub size : e.size ≡ span_of (placed_after (start_of before tokens) members)
  pub record_is : (decoded ts ms e.number).inner ≡ Struct (length members) e.size
  pub offset-is : (j : ℕ) → j < length members
      → member_offset (decoded ts ms e.number).members j ≡ get_or (offsets_after (start_of before tokens) members) j 0

-- each struct of an accepted text is placed so
abbrev pub StructsOfText : Type 0
StructsOfText =
    (types members : ℕ) (s : List ℕ) (d : Declared) → text_of types members s ≡ read d
    → (ts ms : List ℕ) → Extends d.types.words ts → Extends d.members.words ms → Each (λ (n : Named). StructIn ts ms n.shape) d.structs

-- two structs, of one text or of two, that differ in one member's size: the spans and the offsets of their records
abbrev pub GrowthOfStructs : Type 0
GrowthOfStructs =
    (ts ms ts' ms' : List ℕ) (e f : Shape) (p : StructIn ts ms e) (q : StructIn ts' ms' f) (i d : ℕ) → Grows i d p.members q.members
    → (f.size ≤ e.size + round_up e.align d)
    × (e.size ≤ f.size)
    × ((j : ℕ) → j < length p.members → member_offset (decoded ts ms e.number).members j ≤ member_offset (decoded ts' ms' f.number).members j)
