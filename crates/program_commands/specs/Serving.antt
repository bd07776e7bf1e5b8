-- Serves the contracts of functions inside the library: it adds nothing to what the other files say, and a reader may skip it.
-- Assumes nothing.
use Rattle.std.specs.Prelude.{Result, Ok, Err}
use Rattle.program_output.specs.declared.Stop.{Stop}
use Rattle.program_commands.specs.declared.Session.{Session}
use Rattle.program_commands.specs.Commands.{stopped}

-- a change that is refused stops the session
abbrev pub after_change : Session → Result (Unit {0}) Stop → Session
after_change s (Ok done) = s
after_change s (Err stop) = stopped stop s
