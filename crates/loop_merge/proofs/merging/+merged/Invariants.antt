use Rattle.std.specs.Prelude.{◌*◌, ◌+◌}
use Rattle.sigma_spl.specs.Views.{plain_term}
use Rattle.loop_merge.proofs.Depths.{term_depth}
use Rattle.loop_merge.proofs.merging.+merged.Given as goal

-- a term by itself is merged by one call more
abbrev pub decreases-merged : goal.decreases-merged
decreases-merged l = 2 * term_depth (plain_term l.term)

abbrev pub decreases-merged_alone : goal.decreases-merged_alone
decreases-merged_alone l = 2 * term_depth (plain_term l.term) + 1
