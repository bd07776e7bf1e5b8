-- `sheet_names::from_module` meets its contract. The invariant: the names after the instructions that are left are those of all. Assumes nothing.
use Rattle.std.proofs.Common.{◌≡◌}
use Rattle.spirv_words.specs.Module.{between}
use Rattle.sheet_names.specs.Module.{instructions_named, module_names}
use Rattle.sheet_names.proofs.from_module.Given as goal

abbrev pub invariant-loop-at : goal.invariant-loop-at
invariant-loop-at l =
    instructions_named l.«module» (between l.at-iterator.words.now l.at-iterator.at l.at-iterator.end) l.names ≡ module_names l.«module»
