use Rattle.std.proofs.Common.{rules, ◌≡◌, sym, subst}
use Rattle.sigma_spl.specs.Merge.{Merging}
use Rattle.loop_nests.specs.Places.Known.{AreSteps}
use Rattle.loop_merge.specs.Known.{AreKnownPasses}
use Rattle.loop_nests.specs.Views.{from_last, plain_passes}
use Rattle.loop_merge.specs.Views.{plain_merging}
use Rattle.loop_merge.proofs.Merged.{steps-passes}
use Rattle.loop_merge.proofs.Waiting.{known_turned}
use Rattle.loop_merge.proofs.merging.with_passes.Goals as goal

pub with_pass-requires-clause-steps : goal.with_pass-requires-clause-steps
with_pass-requires-clause-steps c =
    let n = c.args.limits.size in
    subst (λ (st : Merging). AreSteps n st.waiting) (sym c.loop-pass.invariant.0)
    (steps-passes c.args.limits.room n (plain_merging c.args.state) (from_last c.loop-pass.yielded) c.requires.steps)

pub loop-pass-init : goal.loop-pass-init
loop-pass-init c =
    let is : c.into_iter-pass-iterator.result.rest.items ≡ c.args.passes.items = search rules in (
      search rules,
      subst (λ ps. AreKnownPasses c.args.limits.room c.args.limits.size (plain_passes ps)) (sym is)
          (known_turned c.args.limits.room c.args.limits.size c.args.passes.items c.requires.known),
    )
