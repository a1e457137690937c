use Rattle.std.proofs.Common.{◌≡◌, drop}
use Rattle.std.specs.List.{list_all}
use Rattle.icode.specs.Plain.{plain_phases}
use Rattle.renumbered_registers.specs.Renumbered.{are_in_order}
use Rattle.renumbered_registers.proofs.orders.are_phases_in_order.Given as goal

abbrev pub invariant-loop-body : goal.invariant-loop-body
invariant-loop-body l =
    list_all (are_in_order l.lanes 0) (plain_phases (drop l.body-index l.phases))
    ≡ list_all (are_in_order l.lanes 0) (plain_phases l.phases)
