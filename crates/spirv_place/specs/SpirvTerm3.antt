-- 02, E5: where the arena check accepts the records that were read, term 3 holds by the module's own Offsets and strides: the statement, of
-- places and leaves by the words of the module. Acceptance, flags, verdicts and the sizes that strides must cover are the arena's.
-- Assumes nothing.
use Rattle.std.specs.Prelude.{◌≡◌, true, ◌≢◌, List, ℕ, ◌+◌, ◌≤◌, ◌<◌, T}
use Rattle.std.specs.Int.{◌∣◌}
use Rattle.ir_records.specs.Result.{ok}
use Rattle.ir_records.specs.Record.{decoded}
use Rattle.proc_type_methods.specs.TypeMethods.{column_step}
use Rattle.valid_type_info.specs.declared.UniformRule.{UniformRule}
use Rattle.valid_type_info.specs.Verdict.{is_ok, alignment_in}
use Rattle.place_descent.specs.Place.{place_of}
use Rattle.place_term3.specs.Term3.{row_in, LeafAt, Has, HostShareableData, StridesCover, Spares}
use Rattle.spirv_words.specs.Module.{opcode, word, type_matrix, type_struct, before}
use Rattle.spirv_words.specs.Decorations.{row_major, matrix_stride, is_members_of}
use Rattle.spirv_ids.specs.Ids.{type_number}
use Rattle.spirv_members.specs.Members.{member_count_at}
use Rattle.spirv_types.specs.Types.{State}
use Rattle.spirv_read.specs.Read.{read_module}
use Rattle.spirv_records.specs.TypesRead.{Among, TypeReadAt}
use Rattle.spirv_place.specs.ModulePlace.{named, ElementOf, matrix_rows, matrix_width, module_place, module_bytes, numbered, FirstSteps}

-- the type at p of a module that was read, with room for t types and m members: s are its records
pub record ReadType (t m : ℕ) (ws : List ℕ) (s : State) (p : ℕ) : Type 0 where
  pub is_read : read_module t m ws ≡ ok s
  pub is_type : TypeReadAt ws p

-- it is a host-shareable data type of the accepted arena of these records
abbrev pub Shareable : (rule : UniformRule) (c : ℕ) (ws : List ℕ) (s : State) (p : ℕ) → Type 0
Shareable rule c ws s p = HostShareableData rule c s.types s.members (type_number ws p)

-- and each array that it reaches has a stride of at least its element's size
abbrev pub Covered : (rule : UniformRule) (c : ℕ) (ws : List ℕ) (s : State) (p : ℕ) → Type 0
Covered rule c ws s p = StridesCover (row_in rule c s.types s.members) (decoded s.types s.members) (type_number ws p)

-- a leaf of the type at p by the words: its type is the place of a type instruction
abbrev pub ModuleLeaf : (ws : List ℕ) (p : ℕ) → Type 0
ModuleLeaf ws p = LeafAt (module_place ws p)

-- byte k of the type at p lies in a leaf
pub record InModuleLeaf (ws : List ℕ) (p k : ℕ) : Type 0 where
  pub leaf : ModuleLeaf ws p
  pub has : Has (module_bytes ws) leaf k

-- byte k of the type at p lies between columns: past the end of a column, and within a column step of its start
pub record BetweenModuleColumns (ws : List ℕ) (p k : ℕ) : Type 0 where
  pub leaf : ModuleLeaf ws p
  pub matrix : opcode ws leaf.ty ≡ type_matrix
  pub past : leaf.byte + module_bytes ws leaf.ty ≤ k
  pub below : k < leaf.byte + column_step (matrix_rows ws leaf.ty) (matrix_width ws leaf.ty)

pub record SpirvTerm3 : Type 0 where
  -- places by the records are places by the module's own words
  pub places : (t m : ℕ) (ws : List ℕ) (s : State) (p : ℕ) → ReadType t m ws s p
      → (steps : List ℕ) → place_of s.types s.members (type_number ws p) steps ≡ numbered ws (module_place ws p steps)
  -- the column step in a place is the module's own MatrixStride, where one is given for a member of matrices or arrays of them, and none is
  -- RowMajor. q is a decoration of member j, before its struct
  pub columns : (t m : ℕ) (ws : List ℕ) (s : State) (p : ℕ) → ReadType t m ws s p → opcode ws p ≡ type_struct → (j : ℕ) → j < member_count_at ws p
      → (x : ℕ) → ElementOf ws (named ws p (2 + j)) x → opcode ws x ≡ type_matrix
      → (q : ℕ) → Among q (before ws p) → is_members_of ws (word ws p 1) q ≡ true → word ws q 2 ≡ j
      → (word ws q 3 ≢ row_major) × (word ws q 3 ≡ matrix_stride → word ws q 4 ≡ column_step (matrix_rows ws x) (matrix_width ws x))
  -- whichever leaf is rewritten, no byte of any other leaf changes
  pub others : (rule : UniformRule) (c t m : ℕ) (ws : List ℕ) (s : State) (p : ℕ) → ReadType t m ws s p → Shareable rule c ws s p → Covered rule c ws s p
      → (one other : ModuleLeaf ws p) → one.steps ≢ other.steps
      → (k : ℕ) → Has (module_bytes ws) other k → Spares (module_bytes ws) one k
  -- a byte in no leaf is changed by no rewriting, and a byte between columns is in no leaf
  pub gaps : (rule : UniformRule) (c t m : ℕ) (ws : List ℕ) (s : State) (p k : ℕ) → ReadType t m ws s p → Shareable rule c ws s p
      → (¬ InModuleLeaf ws p k → (leaf : ModuleLeaf ws p) → Spares (module_bytes ws) leaf k)
      × (Covered rule c ws s p → BetweenModuleColumns ws p k → ¬ InModuleLeaf ws p k)
  -- every leaf lies within the type's size, those in runtime elements past the first aside
  pub within : (rule : UniformRule) (c t m : ℕ) (ws : List ℕ) (s : State) (p : ℕ) → ReadType t m ws s p → Shareable rule c ws s p → Covered rule c ws s p
      → (leaf : ModuleLeaf ws p) → FirstSteps ws p leaf.steps
      → leaf.byte + module_bytes ws leaf.ty ≤ (row_in rule c s.types s.members (type_number ws p)).size
  -- if the storage verdict is Ok, every leaf stands at a multiple of its own storage alignment
  pub aligned : (rule : UniformRule) (c t m : ℕ) (ws : List ℕ) (s : State) (p : ℕ) → ReadType t m ws s p → Shareable rule c ws s p
      → T (is_ok (row_in rule c s.types s.members (type_number ws p)).storage)
      → (leaf : ModuleLeaf ws p)
      → T (is_ok (row_in rule c s.types s.members (type_number ws leaf.ty)).storage)
      × (alignment_in (row_in rule c s.types s.members (type_number ws leaf.ty)).storage ∣ leaf.byte)
