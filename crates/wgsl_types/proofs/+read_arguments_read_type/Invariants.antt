-- Twice the levels left, and one more for the arguments, which ask for a type at as many levels.
use Rattle.std.proofs.Common.{◌+◌, ◌*◌}
use Rattle.wgsl_types.proofs.+read_arguments_read_type.Given as goal

abbrev pub decreases-read_arguments : goal.decreases-read_arguments
decreases-read_arguments l = 2 * l.left + 1

abbrev pub decreases-read_type : goal.decreases-read_type
decreases-read_type l = 2 * l.left
