use Rattle.fast_main.proofs.Existence.{passed_sound}
use Rattle.fast_main.proofs.Faithful.{order_free}
use Rattle.fast_main.proofs.both_ways_of_calling_leave_the_same.Goals as goal

pub returns : goal.returns
returns c = λ size lanes p count limits passes allowed.
    order_free size lanes p (passed_sound size lanes p count limits passes allowed)
