use Rattle.std.proofs.Common.{length}
use Rattle.matrix_meaning.specs.Dimensions.{dims_of}
use Rattle.matrix_meaning.proofs.methods.+bad_power_of_parts.Given as goal

abbrev pub decreases-bad_power_of_parts : goal.decreases-bad_power_of_parts
decreases-bad_power_of_parts l = length (dims_of l.r.now)
