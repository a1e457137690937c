use Rattle.std.proofs.Common.{◌≡◌, ◌<◌}
use Rattle.ring_mod.specs.Residue.{power_mod}
use Rattle.operators.specs.Sum.{list_below}
use Rattle.code_gen.proofs.tables.powers.Given as goal

-- the powers so far, and the next one
abbrev pub invariant-loop : goal.invariant-loop
invariant-loop l = (l.items.items ≡ list_below l.counter (power_mod l.modulus l.root)) × (l.power ≡ power_mod l.modulus l.root l.counter) × (l.power < l.modulus)
