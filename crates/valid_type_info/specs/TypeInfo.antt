-- 01, 'The result row': size, alignment, flags; uniform verdict (five words); storage verdict (five); immediates word.
-- Assumes nothing.
use Rattle.std.specs.Prelude.{List, [], ◌∷◌, ℕ, ◌+◌}
use Rattle.ir_rows.specs.Rows.{row_word}
use Rattle.valid_type_info.specs.declared.Verdict.{Verdict}
use Rattle.valid_type_info.specs.declared.Row.{Row}

-- the fourteen words of a row
unfoldable pub words_of : Row → List ℕ
words_of r =
    r.size
    ∷ r.alignment
    ∷ r.flags
    ∷ r.uniform.code
    ∷ r.uniform.ty
    ∷ r.uniform.index
    ∷ r.uniform.value
    ∷ r.uniform.bound
    ∷ r.storage.code
    ∷ r.storage.ty
    ∷ r.storage.index
    ∷ r.storage.value
    ∷ r.storage.bound
    ∷ r.immediates
    ∷ []

-- the verdict in words j to j + 4 of row k
abbrev pub verdict_in : List ℕ → (k j : ℕ) → Verdict
verdict_in words k j =
    record {
      code = row_word words k j;
      ty = row_word words k (j + 1);
      index = row_word words k (j + 2);
      value = row_word words k (j + 3);
      bound = row_word words k (j + 4);
    }

-- the rows that stand in words; past them a row of zeros
unfoldable pub rows_in : List ℕ → ℕ → Row
rows_in words k =
    record {
      size = row_word words k 0;
      alignment = row_word words k 1;
      flags = row_word words k 2;
      uniform = verdict_in words k 3;
      storage = verdict_in words k 8;
      immediates = row_word words k 13;
    }

-- what acceptance and flags read of rows
abbrev pub row_sizes : (ℕ → Row) → ℕ → ℕ
row_sizes rows k = (rows k).size

abbrev pub row_flags : (ℕ → Row) → ℕ → ℕ
row_flags rows k = (rows k).flags

-- in the place of a row that is not made yet: a pointer or binding array that names itself or a later type reads its empty flags
abbrev pub empty_row : Row
empty_row =
    record {
      size = 0;
      alignment = 0;
      flags = 0;
      uniform = record { code = 0; ty = 0; index = 0; value = 0; bound = 0 };
      storage = record { code = 0; ty = 0; index = 0; value = 0; bound = 0 };
      immediates = 0;
    }

-- in the place of a uniform verdict that is not made
abbrev pub no_verdict : Verdict
no_verdict = record { code = 0; ty = 0; index = 0; value = 0; bound = 0 }

-- what a row has besides its uniform verdict
abbrev pub without_uniform : Row → Row
without_uniform r =
    record {
      size = r.size;
      alignment = r.alignment;
      flags = r.flags;
      uniform = no_verdict;
      storage = r.storage;
      immediates = r.immediates;
    }
