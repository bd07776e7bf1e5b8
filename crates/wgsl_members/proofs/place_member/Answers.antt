use Rattle.std.proofs.Common.{◌+◌, ◌*◌, ◌<◌, length, refl, arith}
use Rattle.ir_records.specs.Record.{member_words}
use Rattle.ir_rows.proofs.RowLaws.{drop_part}
use Rattle.wgsl_members.proofs.MemberLaws.{place_is}
use Rattle.wgsl_members.proofs.place_member.Goals as goal

pub returns : goal.returns
returns c = λ a aligned sized.
    let b = c.args.body in
    let x = c.args.closed in
    let named : b.names < length c.args.names.now = omega (arith, c.requires.named, c.requires.name_room) in
    record {
      is = λ s words. rw (c.put_member.ensures, c.written.ensures, c.max.ensures, c.from.ensures, c.round_up_wide-offset.ensures.0, aligned, sized)
          (place_is s words c.args.names.now c.args.members.now b a x.shape x.made c.args.name x.end.at named c.requires.room);
      types_made = refl;
      members_made = refl;
      named = refl;
      end_within = omega (arith, c.round_up_wide-offset.ensures.1, c.requires.end);
      behind = rw c.put_member.ensures (drop_part member_words c.args.members.now _ (b.made.members * member_words) refl c.requires.room ((b.made.members + 1) * member_words) (omega arith));
    }
