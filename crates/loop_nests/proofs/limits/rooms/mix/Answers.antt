use Rattle.loop_nests.proofs.limits.rooms.mix.Goals as goal

pub reduce_in_room-requires-clause-affine : goal.reduce_in_room-requires-clause-affine
reduce_in_room-requires-clause-affine c =
    let counts = c.args.counts.now in
    let quot = c.scale_in_room.ensures.affine counts c.requires.quot _ c.in-Some.is in
    let rem = c.scale_in_room-2.ensures.affine counts c.requires.rem _ c.in-Some-scale_in_room.is in
    c.add_in_room.ensures.affine counts quot rem _ c.in-Some-add_in_room.is
