use Rattle.coalesced_loops.proofs.Law as law
use Rattle.coalesced_loops.proofs.coalescing.coalesced_does_the_same.Goals as goal

pub returns : goal.returns
returns c = law.coalesced_does_the_same
