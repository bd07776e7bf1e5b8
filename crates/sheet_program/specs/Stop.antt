-- Why nothing more is answered after a value that is no number.
-- Assumes nothing.
use Rattle.program_words.specs.declared.NumberError.{NumberError}
use Rattle.program_words.specs.declared.NumberError.TheVariants as number
use Rattle.sheet_program.specs.declared.Stop.{Stop}
use Rattle.sheet_program.specs.declared.Stop.TheVariants as stop

abbrev pub stop_of : NumberError → Stop
stop_of number.NotANumber = stop.NotANumber
stop_of number.TooLarge = stop.TooLarge
