use Rattle.std.proofs.Common.{◌≡◌, ◌≤◌, ◌*◌, drop}
use Rattle.std.specs.Prelude.{max}
use Rattle.icode.specs.Plain.{plain_body}
use Rattle.renumbered_registers.specs.Renumbered.{most_put}
use Rattle.renumbered_registers.proofs.orders.+putting.Given as goal

abbrev pub invariant-loop-index : goal.invariant-loop-index
invariant-loop-index l = record {
  rest : max l.most (most_put l.lanes l.next (plain_body (drop l.index l.body)))
      ≡ most_put l.lanes 0 (plain_body l.body);
  small : l.next ≤ l.index * 18446744073709551615;
}
