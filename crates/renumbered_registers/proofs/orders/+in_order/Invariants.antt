use Rattle.std.proofs.Common.{◌≡◌, ◌<◌, ◌^◌, drop}
use Rattle.icode.specs.Plain.{plain_body}
use Rattle.renumbered_registers.specs.Renumbered.{are_in_order}
use Rattle.renumbered_registers.proofs.orders.+in_order.Given as goal

abbrev pub invariant-loop-stmt : goal.invariant-loop-stmt
invariant-loop-stmt l = record {
  rest : are_in_order l.lanes l.next (plain_body (drop l.stmt-index l.body))
      ≡ are_in_order l.lanes 0 (plain_body l.body);
  small : l.next < 2 ^ 65;
}
