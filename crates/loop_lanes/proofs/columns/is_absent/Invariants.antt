use Rattle.std.proofs.Common.{◌≡◌, ◌==◌, not, drop}
use Rattle.std.specs.List.{list_all}
use Rattle.loop_lanes.proofs.columns.is_absent.Given as goal

abbrev pub invariant-loop-other : goal.invariant-loop-other
invariant-loop-other l =
    list_all (λ y. not (l.register == y)) (drop l.other-index l.registers) ≡ list_all (λ y. not (l.register == y)) l.registers
