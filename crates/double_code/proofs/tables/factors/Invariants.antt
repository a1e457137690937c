use Rattle.std.proofs.Common.{◌≡◌, take, map}
use Rattle.double_code.specs.Factors.{centred}
use Rattle.double_code.proofs.tables.factors.Given as goal

abbrev pub invariant-loop-entry : goal.invariant-loop-entry
invariant-loop-entry l = l.made.items ≡ map (centred l.modulus) (take l.entry-index l.entries)
