use Rattle.std.proofs.Common.{◌≡◌, drop}
use Rattle.std.specs.Prelude.{nat_lt}
use Rattle.std.specs.List.{list_all}
use Rattle.two_tables.proofs.factors.are_residues.Given as goal

abbrev pub invariant-loop-entry : goal.invariant-loop-entry
invariant-loop-entry l = list_all (λ c. nat_lt c l.modulus) (drop l.entry-index l.entries) ≡ list_all (λ c. nat_lt c l.modulus) l.entries
