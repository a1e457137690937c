use Rattle.std.proofs.Common.{◌≡◌, ◌+◌, ◌/◌, subst, arith}
use Rattle.schedules.specs.Stride.{Makes}
use Rattle.schedules.proofs.Strides.{one_step, makes_one, makes_both}
use Rattle.schedules.proofs.random.+stride_of.Goals as goal

pub returns-then-count-eq0-2 : goal.returns-then-count-eq0-2
returns-then-count-eq0-2 t c =
    let half = c.stride_of-half.result in
    let count = c.args.count in
    let halves : count / 2 + count / 2 ≡ count = omega arith in
    subst (Makes c.then-double.result) halves
    (makes_both half half c.then-double.result (count / 2) (count / 2) c.stride_of-half.ensures c.stride_of-half.ensures c.then-double.ensures)

pub returns-else-count-eq0-2 : goal.returns-else-count-eq0-2
returns-else-count-eq0-2 t c =
    let half = c.stride_of-half.result in
    let count = c.args.count in
    let double = makes_both half half c.then-double.result (count / 2) (count / 2) c.stride_of-half.ensures c.stride_of-half.ensures c.then-double.ensures in
    let halves : count / 2 + count / 2 + 1 ≡ count = omega arith in
    subst (Makes c.then.result) halves (makes_both c.then-double.result one_step c.then.result (count / 2 + count / 2) 1 double makes_one c.then.ensures)
