use Rattle.std.specs.Prelude.{◌≡◌}
use Rattle.sigma_spl.specs.Merge.{most, with_passes}
use Rattle.loop_merge.specs.Known.{AreKnownPasses}
use Rattle.loop_merge.specs.Views.{plain_merging}
use Rattle.loop_nests.specs.Views.{from_last, plain_passes}
use Rattle.loop_merge.proofs.merging.with_passes.Given as goal

-- those that are left are known
abbrev pub invariant-loop-pass : goal.invariant-loop-pass
invariant-loop-pass l =
    (plain_merging l.next ≡ with_passes (most l.limits.room) l.limits.size (plain_merging l.fn.state) (from_last l.yielded))
    × AreKnownPasses l.limits.room l.limits.size (plain_passes l.pass-iterator.rest.items)
