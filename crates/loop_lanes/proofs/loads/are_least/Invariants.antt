use Rattle.std.proofs.Common.{◌≡◌, drop}
use Rattle.std.specs.Prelude.{nat_le}
use Rattle.std.specs.List.{list_all}
use Rattle.loop_lanes.proofs.loads.are_least.Given as goal

abbrev pub invariant-loop-register : goal.invariant-loop-register
invariant-loop-register l =
    list_all (nat_le l.least) (drop l.register-index l.registers) ≡ list_all (nat_le l.least) l.registers
