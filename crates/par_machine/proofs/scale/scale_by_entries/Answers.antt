use Rattle.std.proofs.Common.{arith, ℕ, List, subst, sym}
use Rattle.icode.proofs.Below.{below_from_all}
use Rattle.icode.proofs.Residues.{AreBelow}
use Rattle.par_machine.proofs.scale.scale_by_entries.Goals as goal

pub scale_register-requires-clause-factors : goal.scale_register-requires-clause-factors
scale_register-requires-clause-factors c =
    subst (λ (xs : List ℕ). AreBelow c.args.shape.now.modulus xs) (sym c.table_factors-factors.ensures)
    (below_from_all c.args.shape.now.modulus _ (omega (arith, c.requires.residues 0)) c.requires.factors)
