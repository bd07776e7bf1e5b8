-- 02, E8: the uniform rule as a word, after the capability word: 0 the older, 1 the newer.
-- Assumes nothing.
use Rattle.std.specs.Prelude.{ℕ, eqb, leb, Result, Ok, Err}
use Rattle.ir_records.specs.declared.Refusal.{Refusal}
use Rattle.ir_records.specs.declared.Fault.TheVariants.{TableLength}
use Rattle.ir_records.specs.Refusal.{refusal}
use Rattle.ir_records.specs.Result.{pick}
use Rattle.proc_alignment.specs.Alignment.{most}
use Rattle.valid_type_info.specs.declared.UniformRule.{UniformRule}
use Rattle.valid_type_info.specs.declared.UniformRule.TheVariants.{Older, Newer}

unfoldable pub rule_of : (word : ℕ) → UniformRule
rule_of word = pick (eqb word 0) Older Newer

-- another word is number 1, as capability bits that are not known are: the arena is then asked for with every capability bit set
unfoldable pub capabilities_by : (word capabilities : ℕ) → ℕ
capabilities_by word capabilities = pick (leb word 1) capabilities most

-- the rule with a word, or number 1
unfoldable pub named : (word : ℕ) → Result UniformRule Refusal
named word = pick (eqb word 0) (Ok Older) (pick (eqb word 1) (Ok Newer) (Err (refusal TableLength 0 0 0)))
