use Rattle.std.proofs.Common.{rules}
use Rattle.loop_nests.proofs.limits.rooms.scale_and_add.Goals as goal

pub returns-clause-affine : goal.returns-clause-affine
returns-clause-affine c = λ counts h g.
    let multiple = c.scale_in_room.ensures.affine counts h c.in_ok-multiple.multiple (search rules) in
    c.add_in_room.ensures.affine counts multiple g
