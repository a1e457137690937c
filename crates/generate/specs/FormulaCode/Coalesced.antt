-- Merged passes with copies of words that stand side by side as one loop.
use Rattle.std.specs.Prelude.{map}
use Rattle.loop_merge.specs.Coalescing.Copies.{all_coalesced}
use Rattle.sigma_spl.specs.Merged.{PlainMerged}

-- in each phase
abbrev pub phases_coalesced : PlainMerged → PlainMerged
phases_coalesced g = record { size = g.size; procs = g.procs; lanes = g.lanes; phases = map all_coalesced g.phases }
