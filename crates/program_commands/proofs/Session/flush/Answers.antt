-- `program_commands::Session::flush` meets its contract: what waits and the stop's line are one run of bytes. Assumes nothing.
use Rattle.std.proofs.Common.{refl, sym, ◌∙◌, true}
use Rattle.program_commands.specs.Commands.{stop_bytes}
use Rattle.program_commands.proofs.FlushLaws.{flushed, fitted}
use Rattle.program_commands.proofs.Session.flush.Goals as goal

pub returns-else-is_err-clause-state : goal.returns-else-is_err-clause-state
returns-else-is_err-clause-state g c =
    let s = c.args.self.now in
    let r = c.flush.result in
    let done = sym c.is_err.ensures.value ∙ c.if-is_err.false in (
      true,
      refl,
      λ _ full. (
        fitted c.args.out.now c.put_stop.new.out (stop_bytes s) c.put_stop.ensures r done c.flush.ensures.past,
        flushed _ _
            c.args.out.now c.put_stop.new.out (stop_bytes s) c.put_stop.ensures full r done c.flush.ensures.past c.flush.ensures.written,
      ),
    )
