-- What a program reads: standard input, or a file.
-- Assumes nothing.
use Rattle.std.specs.Prelude.{List, ℕ, Option}
use Rattle.program_files.specs.declared.Source.{Source}
use Rattle.program_files.specs.declared.Source.TheVariants as source

-- the bytes that are left to read, where they are known: those of the input, or of the file
abbrev pub left_of : {S F : Type 0} → (S → Option (List ℕ)) → (F → Option (List ℕ)) → Source S F → Option (List ℕ)
left_of input file (source.Standard s) = input s
left_of input file (source.Named f) = file f
