use Rattle.std.proofs.Common.{ℕ, ◌+◌, ◌-◌, ◌^◌, ◌≤◌, List, length, ap, arith}
use Rattle.sigma_spl.specs.Views.{plain_multiplier}
use Rattle.std.specs.Option.{option_map}
use Rattle.loop_nests.proofs.Lifting.{all_raised, more_places}
use Rattle.loop_nests.proofs.lifted.lift.Goals as goal

pub all_raised-requires : goal.all_raised-requires
all_raised-requires c =
    let count = length c.args.nest.now.counts.items in
    let long = ap (λ (l : List ℕ). length l) c.deref.ensures in
    let few : (count + 2) + length c.args.path.now ≤ 2 ^ 64 = omega (arith, long) in
    rw c.deref-2.ensures.value
    (all_raised (count + 2) c.args.path.now c.args.size c.args.before c.args.nest.now.gathers.items few
    c.requires.gathers)

pub all_raised-requires-2 : goal.all_raised-requires-2
all_raised-requires-2 c =
    let count = length c.args.nest.now.counts.items in
    let long = ap (λ (l : List ℕ). length l) c.deref.ensures in
    let few : (count + 2) + length c.args.path.now ≤ 2 ^ 64 = omega (arith, long) in
    rw c.deref-3.ensures.value
    (all_raised (count + 2) c.args.path.now c.args.size c.args.before c.args.nest.now.scatters.items few
    c.requires.scatters)

pub count_on-requires : goal.count_on-requires
count_on-requires c =
    let count = length c.args.nest.now.counts.items in
    let long = ap (λ (l : List ℕ). length l) c.deref.ensures in
    let few : (count + 2) + length c.args.path.now ≤ 2 ^ 64 = omega (arith, long) in
    let multiplier = option_map plain_multiplier c.args.nest.now.multiplier in
    more_places (count + 2) (2 ^ 64 - length c.args.path.now) multiplier (omega (arith, few)) c.requires.multiplier
