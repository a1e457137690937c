use Rattle.std.proofs.Common.{rules}
use Rattle.loop_nests.proofs.limits.rooms.line.Goals as goal

pub returns-clause-affine : goal.returns-clause-affine
returns-clause-affine c = λ counts h.
    let multiple = c.scale_in_room.ensures.affine counts (search rules) _ c.in-Some.is in
    c.add_in_room.ensures.affine counts tt multiple
