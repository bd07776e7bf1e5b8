-- A struct among the members is walked, or found kept, at a smaller type number; what it gives is kept on.
use Rattle.std.proofs.Common.{List, ◌≡◌, ℕ, ◌+◌, ◌/◌, ◌%◌, ◌<◌, length, sym, ap, ◌∙◌, arith}
use Rattle.ir_records.specs.Record.{decoded, type_word, struct_kind, struct_members}
use Rattle.ir_records.specs.Table.{table}
use Rattle.immediates_part.specs.Part.{Part}
use Rattle.immediates_part.specs.Part.{moved, part_found}
use Rattle.immediates_kept.proofs.KeptLaws.{keeps_more}
use Rattle.immediates_walk.specs.Parts.{no_part, part_step, members_part, part_at}
use Rattle.immediates_walk.proofs.PartsLaws.{part_moved, part_of_struct, part_refused, part_more}
use Rattle.immediates_walk.proofs.+members_part_struct_part.Goals as goal

pub members_part-returns-in_err-nested-clause-value : goal.members_part-returns-in_err-nested-clause-value
members_part-returns-in_err-nested-clause-value t c =
    let w = c.args.walk in
    let a = w.of in
    let own = c.struct_members-own.ensures in
    let struct = (rw c.in_ok-plain.was at c.plain_from.ensures.taken_bound) c.if-walk-taken.false in
    let type = rw own at c.member_type-t.ensures in
    let early : c.member_type-t.result < a.ty = rw type struct.0 in
    let at = ap (λ (x : ℕ). w.offset + x) (rw own at c.member_offset.ensures) in
    let nested = sym (ap part_found c.in_err-nested.was) ∙ c.struct_part.ensures.value in
    ap part_found c.from_residual-in_err-nested.ensures
    ∙ part_refused (decoded a.types.now a.members.now) a.ty (struct_members a.types.now a.members.now a.ty) w.offset c.in_ok-plain.plain.taken type at early nested w.count (omega (arith, c.if-walk-taken.false))

pub members_part-loop-j-preserved : goal.members_part-loop-j-preserved
members_part-loop-j-preserved t c =
    let w = c.args.walk in
    let a = w.of in
    let own = c.struct_members-own.ensures in
    let struct = (rw c.in_ok-plain.was at c.plain_from.ensures.taken_bound) c.if-walk-taken.false in
    let found = rw c.in_ok-plain.was at c.plain_from.ensures.value in
    let type = rw own at c.member_type-t.ensures in
    let early : c.member_type-t.result < a.ty = rw type struct.0 in
    let at = ap (λ (x : ℕ). w.offset + x) (rw own at c.member_offset.ensures) in
    let nested = sym (ap part_found c.in_ok-nested.was) ∙ c.struct_part.ensures.value in
    record {
      within = omega (arith, c.if-walk-taken.false);
      so_far = part_more (decoded a.types.now a.members.now) a.ty (struct_members a.types.now a.members.now a.ty) w.offset c.in_ok-plain.plain.taken type at early found nested c.join-part.ensures;
      keeps = c.struct_part.ensures.keeps_2;
    }

-- a part that is moved, by the one that is found
moved_found : (ts ms : List ℕ) (ty offset : ℕ) {part : Part} → part ≡ part_at (decoded ts ms) ty (offset % 4) → moved (offset / 4) part ≡ part_at (decoded ts ms) ty offset
moved_found ts ms ty offset e = ap (moved (offset / 4)) e ∙ part_moved (decoded ts ms) ty offset

-- the part of a struct at an offset, by that of its members
own_part : (ts ms : List ℕ) (ty offset : ℕ) {part : Part} → type_word ts ty 0 ≡ struct_kind
    → part ≡ members_part (table no_part (part_step (decoded ts ms)) ty) (struct_members ts ms ty) offset (type_word ts ty 2) → part ≡ part_at (decoded ts ms) ty offset
own_part ts ms ty offset kind e = e ∙ sym (part_of_struct ts ms ty offset kind)

pub struct_part-returns-in_err-part-clause-value : goal.struct_part-returns-in_err-part-clause-value
struct_part-returns-in_err-part-clause-value t c =
    let a = c.args.own in
    let offset = c.args.offset in
    let own = c.requires.keeps a.ty (offset % 4) c.in-Some.part (omega arith) (sym c.kept_part.ensures ∙ c.in-Some.is) in
    ap part_found c.from_residual.ensures ∙ moved_found a.types.now a.members.now a.ty offset (sym (ap part_found c.in_err-part.was) ∙ own)

pub struct_part-returns-in-Some-clause-value : goal.struct_part-returns-in-Some-clause-value
struct_part-returns-in-Some-clause-value t c =
    let a = c.args.own in
    let offset = c.args.offset in
    let own = c.requires.keeps a.ty (offset % 4) c.in-Some.part (omega arith) (sym c.kept_part.ensures ∙ c.in-Some.is) in
    c.moved.ensures ∙ moved_found a.types.now a.members.now a.ty offset (sym (ap part_found c.in_ok-part.was) ∙ own)

pub struct_part-returns-in_err-walked-clause-value : goal.struct_part-returns-in_err-walked-clause-value
struct_part-returns-in_err-walked-clause-value t c =
    let a = c.args.own in
    let offset = c.args.offset in
    let own = own_part a.types.now a.members.now a.ty (offset % 4) c.requires.ty_value (rw (c.start.ensures.of_same, c.start.ensures.offset_same, c.start.ensures.count_value) at c.members_part-walked.ensures.value) in
    ap part_found c.from_residual-in_err-walked.ensures ∙ moved_found a.types.now a.members.now a.ty offset (sym (ap part_found c.in_err-walked.was) ∙ own)

pub struct_part-returns-clause-value : goal.struct_part-returns-clause-value
struct_part-returns-clause-value t c =
    let a = c.args.own in
    let offset = c.args.offset in
    let own = own_part a.types.now a.members.now a.ty (offset % 4) c.requires.ty_value (rw (c.start.ensures.of_same, c.start.ensures.offset_same, c.start.ensures.count_value) at c.members_part-walked.ensures.value) in
    c.moved-2.ensures ∙ moved_found a.types.now a.members.now a.ty offset (sym (ap part_found c.in_ok-walked.was) ∙ own)

pub struct_part-returns-in_err-walked-clause-keeps_2 : goal.struct_part-returns-in_err-walked-clause-keeps_2
struct_part-returns-in_err-walked-clause-keeps_2 t c =
    let a = c.args.own in
    let offset = c.args.offset in
    let walk = c.members_part-walked in
    let own = own_part a.types.now a.members.now a.ty (offset % 4) c.requires.ty_value (rw (c.start.ensures.of_same, c.start.ensures.offset_same, c.start.ensures.count_value) at walk.ensures.value) in
    let long : a.ty < length walk.new.kept = omega (arith, c.requires.ty_in_bounds, walk.auto.kept) in
    rw c.keep.ensures (keeps_more walk.new.kept a.ty (offset % 4) long (part_at (decoded a.types.now a.members.now)) walk.result own (rw c.start.ensures.of_same at walk.ensures.keeps_2))

pub struct_part-returns-clause-keeps_2 : goal.struct_part-returns-clause-keeps_2
struct_part-returns-clause-keeps_2 t c =
    let a = c.args.own in
    let offset = c.args.offset in
    let walk = c.members_part-walked in
    let own = own_part a.types.now a.members.now a.ty (offset % 4) c.requires.ty_value (rw (c.start.ensures.of_same, c.start.ensures.offset_same, c.start.ensures.count_value) at walk.ensures.value) in
    let long : a.ty < length walk.new.kept = omega (arith, c.requires.ty_in_bounds, walk.auto.kept) in
    rw c.keep.ensures (keeps_more walk.new.kept a.ty (offset % 4) long (part_at (decoded a.types.now a.members.now)) walk.result own (rw c.start.ensures.of_same at walk.ensures.keeps_2))
