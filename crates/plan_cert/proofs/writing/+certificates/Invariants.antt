use Rattle.std.proofs.Common.{length}
use Rattle.matrix_meaning.specs.Dimensions.{dims_of}
use Rattle.plan_cert.proofs.writing.+certificates.Given as goal

abbrev pub decreases-certificates : goal.decreases-certificates
decreases-certificates l = length (dims_of l.c.now)
