use Rattle.icode.proofs.BuffersAmong.{buffers_among_end, fresh_buffers_ignore_leftovers, memory_of_buffers_among}
use Rattle.icode.proofs.FreshCodes.{fresh_ignores_leftovers, programs_have_factors}
use Rattle.icode.proofs.Leftovers.{memory_of_runs_among}
use Rattle.icode.proofs.laws.leftovers_are_free.Goals as goal

pub returns-clause-in_order : goal.returns-clause-in_order
returns-clause-in_order c code left is apart files x turns = memory_of_runs_among code left is apart files x turns

pub returns-clause-fresh : goal.returns-clause-fresh
returns-clause-fresh c code left is factors fresh are x turns size = fresh_ignores_leftovers code left is factors fresh are x turns size

pub returns-clause-factors : goal.returns-clause-factors
returns-clause-factors c p phase q n a e = programs_have_factors p phase q n a e

pub returns-clause-buffers_end : goal.returns-clause-buffers_end
returns-clause-buffers_end c = buffers_among_end

pub returns-clause-buffers_in_order : goal.returns-clause-buffers_in_order
returns-clause-buffers_in_order c = memory_of_buffers_among

pub returns-clause-buffers_fresh : goal.returns-clause-buffers_fresh
returns-clause-buffers_fresh c = fresh_buffers_ignore_leftovers
