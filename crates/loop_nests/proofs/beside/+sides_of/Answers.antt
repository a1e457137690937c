use Rattle.std.proofs.Common.{◌+◌, arith, subst}
use Rattle.loop_nests.specs.Lifted.{AreLifted}
use Rattle.loop_nests.proofs.Standing.{as-long, last_first, same-first, shorter}
use Rattle.loop_nests.proofs.beside.+sides_of.Goals as goal

pub sides_of-requires : goal.sides_of-requires
sides_of-requires t c =
    let size = c.args.sizes.0 + c.args.sizes.1 in
    let left = subst (AreLifted c.args.path.now size 0) (same-first _ _ c.in-None.ensures.items) c.requires.first in
    let right = subst (AreLifted c.args.path.now size c.args.sizes.0) (last_first _ _ _ c.in-Some-pop.ensures.items) c.requires.second in
    (omega (arith, c.decreases, as-long _ _ _ c.in-None.ensures.items, shorter _ _ _ _ c.in-Some-pop.ensures.items), (c.requires.stand, (left, right.1)))

pub sides_of-requires-in-None-pop-2 : goal.sides_of-requires-in-None-pop-2
sides_of-requires-in-None-pop-2 t c =
    let size = c.args.sizes.0 + c.args.sizes.1 in
    let left = subst (AreLifted c.args.path.now size 0) (last_first _ _ _ c.in-Some.ensures.items) c.requires.first in
    let right = subst (AreLifted c.args.path.now size c.args.sizes.0) (same-first _ _ c.in-None-pop-2.ensures.items) c.requires.second in
    (omega (arith, c.decreases, shorter _ _ _ _ c.in-Some.ensures.items, as-long _ _ _ c.in-None-pop-2.ensures.items), (c.requires.stand, (left.1, right)))

pub sides_of-requires-in-Some-pop-2 : goal.sides_of-requires-in-Some-pop-2
sides_of-requires-in-Some-pop-2 t c =
    let size = c.args.sizes.0 + c.args.sizes.1 in
    let left = subst (AreLifted c.args.path.now size 0) (last_first _ _ _ c.in-Some.ensures.items) c.requires.first in
    let right = subst (AreLifted c.args.path.now size c.args.sizes.0) (last_first _ _ _ c.in-Some-pop-2.ensures.items) c.requires.second in
    (omega (arith, c.decreases, shorter _ _ _ _ c.in-Some.ensures.items, shorter _ _ _ _ c.in-Some-pop-2.ensures.items), (c.requires.stand, (left.1, right.1)))
