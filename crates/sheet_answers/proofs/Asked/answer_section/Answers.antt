-- `sheet_answers::Asked::answer_section` meets its contract: the records are judged, and the structs or the refusal written. Assumes nothing.
use mathlib.Core.Path.{refl, ap, ◌∙◌}
use lib.ListN.{get_or}
use Rattle.std.specs.Prelude.{Ok, Err, None}
use Rattle.sheet_output.specs.declared.Markup.TheVariants as markup
use Rattle.sheet_refusals.specs.Text.{module_arena}
use Rattle.sheet_answers.proofs.Asked.answer_section.Goals as goal

pub returns-in-Err : goal.returns-in-Err
returns-in-Err g c = λ words bytes types is.
    let m = c.args.«module» in
    let r = c.of-records.result in
    let o = c.of-records.ensures in
    let refusal = c.in-Err.refusal in (
      module_arena r words (get_or (m.places.now) refusal.ty None) refusal,
      record {
        records = r;
        of = m;
        holds =
            record {
              bytes-are = ap (λ b. b.now) o.text ∙ is.bytes-are;
              types-are = ap (λ b. b.now) o.types ∙ is.types-are;
              members-are = ap (λ b. b.now) o.members;
            };
        is = is;
        named = ap (λ b. b.now) o.names ∙ c.from_module-names.ensures;
        says = record { answer = Err refusal; judged = c.in-Err.ensures.judged; says = refl };
      },
      (markup.Plain, rw (c.in-Err.ensures.written, c.item_or-place.ensures, is.words-are) at c.put_module_arena.ensures),
    )

pub returns-in_default : goal.returns-in_default
returns-in_default g c = λ words bytes types is.
    let r = c.of-records.result in
    let o = c.of-records.ensures in
    let w = c.in_default.ensures.written in (
      w.0,
      record {
        records = r;
        of = c.args.«module»;
        holds =
            record {
              bytes-are = ap (λ b. b.now) o.text ∙ is.bytes-are;
              types-are = ap (λ b. b.now) o.types ∙ is.types-are;
              members-are = ap (λ b. b.now) o.members;
            };
        is = is;
        named = ap (λ b. b.now) o.names ∙ c.from_module-names.ensures;
        says = record { answer = Ok tt; judged = c.in_default.ensures.judged; says = w.1 };
      },
      (c.args.out.now.markup, w.2),
    )
