use Rattle.std.proofs.Common.{◌≡◌, drop}
use Rattle.std.specs.Prelude.{max}
use Rattle.icode.specs.Plain.{plain_phases}
use Rattle.renumbered_registers.specs.Renumbered.{registers_for}
use Rattle.renumbered_registers.proofs.orders.registers_for.Given as goal

abbrev pub invariant-loop-body : goal.invariant-loop-body
invariant-loop-body l =
    max l.most (registers_for l.lanes (plain_phases (drop l.body-index l.phases)))
    ≡ registers_for l.lanes (plain_phases l.phases)
