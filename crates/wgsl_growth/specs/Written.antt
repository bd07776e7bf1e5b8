-- 02, E7: the members of a struct as the reader has them where their types close, placed one after the other by the reader's own step.
-- Assumes nothing.
use Rattle.std.specs.Prelude.{◌≡◌, List, [], ◌∷◌, ◌++◌, ℕ, ◌+◌}
use Rattle.std.proofs.Math.Option.{Option}
use Rattle.ir_records.specs.declared.Words.{Words}
use Rattle.wgsl_tokens.specs.Tokens.{Token}
use Rattle.wgsl_placement.specs.Placement.{words_of}
use Rattle.wgsl_placement.specs.declared.Shape.{Shape}
use Rattle.wgsl_tables.specs.Tables.{Records, Named}
use Rattle.wgsl_members.specs.Members.{Members, align_of_member, size_of_member, offset_of_member, with_member}
use Rattle.wgsl_members.specs.declared.Attributes.{Attributes}
use Rattle.w3c_agreement.specs.Wgsl.{WgslType, Members as WgslMembers}
use Rattle.wgsl_growth.specs.Tree.{last_tree, member_tree, NamedTree}

-- of each in a list
abbrev pub Each {ℓ} : {A : Type ℓ} → (A → Type 0) → List A → Type 0
Each P [] = Unit {0}
Each P (a ∷ as') = P a × Each P as'

-- a member where its type has closed: what was read of it, what its type denotes, the type records so far, and the tokens after it
pub record Written : Type 0 where
  pub attributes : Attributes
  pub name : List ℕ
  pub shape : Shape
  pub tree : Option WgslType
  pub types : Records
  pub rest : List Token

-- AlignOfMember and SizeOfMember, as the reader has them
abbrev pub align_of : Written → ℕ
align_of w = align_of_member w.attributes w.shape

abbrev pub size_of : Written → ℕ
size_of w = size_of_member w.attributes w.shape

-- ---- members one after the other
abbrev pub with_written : Members → Written → Members
with_written m w = with_member m w.attributes w.name w.shape w.types w.rest

unfoldable pub placed_after : Members → List Written → Members
placed_after m [] = m
placed_after m (w ∷ ws) = placed_after (with_written m w) ws

-- where each of them stands: OffsetOfMember, as the reader has it
unfoldable pub offsets_after : Members → List Written → List ℕ
offsets_after m [] = []
offsets_after m (w ∷ ws) = offset_of_member m w.attributes w.shape ∷ offsets_after (with_written m w) ws

-- ---- records
abbrev pub with_record : Records → Words → Records
with_record r w = record { made = r.made + 1; words = r.words ++ words_of w }

-- more words, the earlier ones as they were
abbrev pub Extends : (was is : List ℕ) → Type 0
Extends was is = (more : List ℕ) × (is ≡ was ++ more)

-- ---- what the members of a struct denote
unfoldable pub fields_of : Written → List Written → Option WgslMembers
fields_of w [] = last_tree w.attributes w.tree
fields_of w (v ∷ ws) = member_tree w.attributes w.tree (fields_of v ws)

-- the structs of a text beside what they denote: as many, of the same names, with a claim about each
abbrev pub AllNamed : (Shape → Option WgslType → Type 0) → List Named → List NamedTree → Type 0
AllNamed Q [] [] = Unit {0}
AllNamed Q [] (x ∷ xs) = ⊥
AllNamed Q (n ∷ ns) [] = ⊥
AllNamed Q (n ∷ ns) (x ∷ xs) = (x.name ≡ n.name) × Q n.shape x.tree × AllNamed Q ns xs
