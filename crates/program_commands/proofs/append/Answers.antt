-- `program_commands::append` meets its contract: the words stand where they are copied. Assumes nothing.
use mathlib.Core.Path.{◌≡◌, refl, sym, ◌∙◌}
use Prim.Native.Nat.{◌+◌, ◌-◌}
use native.Mathlib.Omega.{arith}
use mathlib.Core.List.{append_assoc}
use borrow.Author.Tests.{le-ltb}
use lib.ListN.{length, take, drop}
use Rattle.std.proofs.lemmas.Slice.{put_mid-paste}
use Rattle.std.proofs.lemmas.List.Edits.{paste_all, sets-eq}
use Rattle.program_commands.specs.Commands.{end_after, appended}
use Rattle.program_commands.proofs.append.Goals as goal

pub returns : goal.returns
unfolding end_after appended
returns c =
    let a = c.args in
    let w = a.words.now in
    let n : length w ≡ a.end + length w - a.end = omega arith in
    rw (le-ltb (a.limit - length w) a.end c.if-limit-words.false) record {
      value = refl;
      arena_after =
          put_mid-paste a.end (a.end + length w - a.end) a.arena.now c.copy_from_slice.new.self w (length w) c.copy_from_slice.ensures.after n refl
          ∙ (paste_all a.arena.now a.end w (length w) refl ∙ sym (append_assoc (take a.end a.arena.now) w (drop (a.end + length w) a.arena.now)) ∙ sym (sets-eq w a.arena.now a.end (omega (arith, c.told-arena, c.requires, c.if-limit-words.false))));
    }
