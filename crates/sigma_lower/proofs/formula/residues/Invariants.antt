use Rattle.std.specs.Prelude.{◌≡◌, ◌%◌, map, take}
use Rattle.sigma_lower.proofs.formula.residues.Given as goal

abbrev pub invariant-loop-value : goal.invariant-loop-value
invariant-loop-value l = l.residues.items ≡ map (λ v. v % l.modulus) (take l.value-index l.entries)
