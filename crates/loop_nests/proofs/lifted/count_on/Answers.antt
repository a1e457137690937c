use Rattle.loop_nests.proofs.lifted.count_on.Goals as goal

pub renumber_all-requires : goal.renumber_all-requires
renumber_all-requires c = rw c.deref_mut.ensures.value (rw c.in-Some.is at c.requires)
