-- Joined passes do what their parts do one after another.
use Rattle.std.proofs.Common.{◌≡◌, ℕ, List, sym, ap, ◌∙◌}
use Rattle.std.specs.Prelude.{slice_index}
use Rattle.loop_merge.specs.JoinedPasses.InOnePhase.{joined}
use Rattle.loop_merge.specs.JoinedPasses.Laws.{AreInTurn}
use Rattle.loop_merge.specs.MultipliedPasses.Multiplied.{multiplied_last}
use Rattle.loop_merge.proofs.MultipliedPasses.Means.{last-scaled, one-phase}
use Rattle.operators.specs.Operator.{scale}
use Rattle.sigma_spl.specs.Shared.Owners.{all_passes}
use Rattle.sigma_spl.specs.Merged.{PlainMerged, phase_on, phases_on, merged_on}
use Rattle.sigma_spl.specs.Nest.{PlainNest, values}
use Rattle.sigma_spl.proofs.Phases.{phase-append}

pub joined_means : (g k : PlainMerged) (ds : List ℕ) → AreInTurn g ds k (joined g ds k)
joined_means g k ds free size m x positive =
    let n = g.size in
    let first = all_passes g.phases in
    let second = all_passes k.phases in
    phase-append m n (multiplied_last (values ds) first) second x
    ∙ ap (phase_on m n second)
    (last-scaled (values ds) m n positive first x free ∙ ap (scale m n (slice_index ds)) (sym (one-phase m n g.phases x)))
    ∙ sym (one-phase m n k.phases (scale m n (slice_index ds) (merged_on m g x)))
    ∙ ap (λ s. phases_on m s k.phases (scale m n (slice_index ds) (merged_on m g x))) (sym size)

-- so does what has their phases
pub are_in_turn : (g k : PlainMerged) (ds : List ℕ) (phases : List (List (List PlainNest))) →
    phases ≡ (joined g ds k).phases →
    AreInTurn g ds k (record { size = g.size; procs = g.procs; lanes = g.lanes; phases = phases })
are_in_turn g k ds phases is free size m x positive =
    ap (λ ps. phases_on m g.size ps x) is ∙ joined_means g k ds free size m x positive
