use Rattle.std.proofs.Common.{arith}
use Rattle.breakdown.proofs.Asked.{closing_unit}
use Rattle.breakdown.proofs.closing.closed.Goals as goal

pub divide-requires-clause-unit : goal.divide-requires-clause-unit
divide-requires-clause-unit c =
    closing_unit c.args.c.now c.request-request.result _ c.request-request.ensures.valid
    c.request-request.ensures.value c.in-Idft.is
    (omega (arith, c.rows.ensures.value))
