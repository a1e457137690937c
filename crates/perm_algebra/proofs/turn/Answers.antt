use Rattle.std.proofs.Common.{rules}
use Rattle.perm_algebra.proofs.turn.Goals as goal

pub returns-clause-affine : goal.returns-clause-affine
returns-clause-affine c =
    let counts = c.args.counts.now in
    c.both.ensures.affine counts (c.multiple.ensures.affine counts (search rules)) (search rules)
