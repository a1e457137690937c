use Rattle.renumbered_registers.specs.Renumbered.{are_consecutive}
use Rattle.renumbered_registers.specs.Views.{plain_numbering}
use Rattle.renumbered_registers.proofs.Steps.{AreLeft}
use Rattle.renumbered_registers.proofs.numbering.Numbering.are_consecutive.Given as goal

abbrev pub invariant-loop-lane : goal.invariant-loop-lane
invariant-loop-lane l =
    AreLeft l.count l.lane l.register l.number (plain_numbering l.self)
    (are_consecutive l.count l.register l.number (plain_numbering l.self))
