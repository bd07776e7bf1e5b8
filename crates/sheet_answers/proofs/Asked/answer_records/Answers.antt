-- `sheet_answers::Asked::answer_records` meets its contract: the records are judged, and the structs or the refusal written. Assumes nothing.
use mathlib.Core.Path.{refl, ap}
use Rattle.std.specs.Prelude.{Ok, Err}
use Rattle.sheet_output.specs.declared.Markup.TheVariants as markup
use Rattle.sheet_refusals.specs.Text.{text_arena}
use Rattle.sheet_answers.proofs.Asked.answer_records.Goals as goal

pub returns-in-Err : goal.returns-in-Err
returns-in-Err g c =
    let r = c.of-records.result in
    let o = c.of-records.ensures in
    let n = c.from_text-names.ensures in
    let refusal = c.in-Err.refusal in (
      text_arena r refusal,
      record {
        records = r;
        holds = record { bytes-are = ap (λ b. b.now) o.text; types-are = ap (λ b. b.now) o.types; members-are = ap (λ b. b.now) o.members };
        named = rw o.names record { tokens = n.places.0; all = n.places.1; places = n.places.2; bytes = n.named };
        says = record { answer = Err refusal; judged = c.in-Err.ensures.judged; says = refl };
      },
      (markup.Plain, rw c.in-Err.ensures.written at c.put_text_arena.ensures),
    )

pub returns-in_default : goal.returns-in_default
returns-in_default g c =
    let r = c.of-records.result in
    let o = c.of-records.ensures in
    let n = c.from_text-names.ensures in
    let w = c.in_default.ensures.written in (
      w.0,
      record {
        records = r;
        holds = record { bytes-are = ap (λ b. b.now) o.text; types-are = ap (λ b. b.now) o.types; members-are = ap (λ b. b.now) o.members };
        named = rw o.names record { tokens = n.places.0; all = n.places.1; places = n.places.2; bytes = n.named };
        says = record { answer = Ok tt; judged = c.in_default.ensures.judged; says = w.1 };
      },
      (c.args.out.now.markup, w.2),
    )
