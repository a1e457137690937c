use Rattle.std.proofs.Common.{arith}
use Rattle.plan_cert.proofs.verdict.combined.Goals as goal

pub overflow_mul-result : goal.overflow_mul-result
overflow_mul-result c =
    let fits = c.requires c.in-Least-Least.x c.in-Least-Least.y c.in-Least-Least.is-0 c.in-Least-Least.is-1 in
    omega (arith, fits)

pub overflow_mul-result-in-Least-Least : goal.overflow_mul-result-in-Least-Least
overflow_mul-result-in-Least-Least c =
    let fits = c.requires c.in-Least-Least.x c.in-Least-Least.y c.in-Least-Least.is-0 c.in-Least-Least.is-1 in
    omega (arith, fits)
