use Rattle.sigma_spl.specs.Shared.Targets.{target_of}
use Rattle.vec_rewrite.proofs.Rows.{first_rows, second_rows}
use Rattle.vec_rewrite.proofs.lanes_of.Goals as goal

pub phase-requires-clause-rows : goal.phase-requires-clause-rows
phase-requires-clause-rows c = first_rows (target_of c.args.c.now) c.args.f c.requires

pub phase-requires-2-clause-rows : goal.phase-requires-2-clause-rows
phase-requires-2-clause-rows c = second_rows (target_of c.args.c.now) c.args.f c.requires
