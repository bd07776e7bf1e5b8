-- Of the rows of the types before, a type's storage verdict and its immediates word read no uniform verdict, and its flags read sizes and flags alone, as
-- their type says: judged by any minimum alignment of uniform verdicts, a type has in common what the definition without that verdict has.
-- Assumes nothing.
use mathlib.Core.Path.{◌≡◌, refl, ap}
use mathlib.Core.List.{List}
use Prim.Native.Nat.{ℕ, zero, suc}
use Rattle.ir_records.specs.Result.{Result, err, ok, and_then}
use Rattle.ir_records.specs.declared.TypeInner.{TypeInner}
use Rattle.ir_records.specs.declared.TypeInner.TheVariants.{Plain, Array, RuntimeArray, Struct, Other}
use Rattle.proc_type_alignment.specs.declared.TypeLayout.{TypeLayout}
use Rattle.valid_type_info.specs.declared.Row.{Row}
use Rattle.valid_type_info.specs.Verdict.{span_verdict}
use Rattle.valid_type_info.specs.TypeInfo.{without_uniform, row_sizes, row_flags}
use Rattle.valid_member_rules.specs.MemberRules.{storage_after, immediates_after}
use Rattle.valid_types.specs.ValidateType.{flags_of, storage_of, immediates_of, row_of, judge, judge_common}

module _ (rows : ℕ → Row) where
  -- the rows without their uniform verdicts
  abbrev common : ℕ → Row
  common k = without_uniform (rows k)

  -- ---- members
  storage_after_common : (i : ℕ) (members : List ℕ) (j : ℕ) → storage_after common i members j ≡ storage_after rows i members j
  unfolding storage_after
  storage_after_common i members zero = refl
  storage_after_common i members (suc j) = rw (storage_after_common i members j) refl

  immediates_after_common : (members : List ℕ) (j : ℕ) → immediates_after common members j ≡ immediates_after rows members j
  unfolding immediates_after
  immediates_after_common members zero = refl
  immediates_after_common members (suc j) = rw (immediates_after_common members j) refl

  -- ---- a type
  storage_common : (i alignment : ℕ) (this : TypeInner) (members : List ℕ) → storage_of common i alignment this members ≡ storage_of rows i alignment this members
  unfolding storage_of
  storage_common i alignment (Plain leaf) members = refl
  storage_common i alignment (Array base count stride) members = refl
  storage_common i alignment (RuntimeArray base stride) members = refl
  storage_common i alignment (Struct count span) members = ap (span_verdict i span alignment) (storage_after_common i members count)
  storage_common i alignment (Other o) members = refl

  immediates_common : (this : TypeInner) (members : List ℕ) → immediates_of common this members ≡ immediates_of rows this members
  unfolding immediates_of
  immediates_common (Plain leaf) members = refl
  immediates_common (Array base count stride) members = refl
  immediates_common (RuntimeArray base stride) members = refl
  immediates_common (Struct count span) members = immediates_after_common members count
  immediates_common (Other o) members = refl

  -- what a type that is judged by any minimum alignment has besides its uniform verdict, or its refusal
  pub judged_common : (least c : ℕ) (inner : ℕ → TypeInner) (i : ℕ) (l : TypeLayout) (this : TypeInner) (members : List ℕ)
      → and_then (judge least c inner rows i l this members) (λ r. ok (without_uniform r)) ≡ judge_common c inner common i l this members
  unfolding judge judge_common row_of
  judged_common least c inner i l this members =
      rw (storage_common i l.alignment this members, immediates_common this members) (go (flags_of c inner (row_sizes rows) (row_flags rows) this members))
    where
      go : (o : Result ℕ)
          → and_then (and_then o (λ f. ok (row_of least inner rows i l this members f))) (λ r. ok (without_uniform r))
          ≡ and_then o (λ f. ok (without_uniform (row_of least inner rows i l this members f)))
      go (ok f) = refl
      go (err n m d) = refl
