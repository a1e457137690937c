use Rattle.std.proofs.Common.{◌<◌, All, List, ℕ, subst, sym, arith}
use Rattle.double_code.proofs.Entries.{table_below}
use Rattle.double_code.proofs.tables.factor_tables.Goals as goal

pub factors-requires-clause-below : goal.factors-requires-clause-below
factors-requires-clause-below c =
    subst (λ (xs : List ℕ). All (λ v. v < c.args.modulus) xs) (sym c.deref.ensures.value)
    (table_below c.args.modulus c.args.tables.now c.loop-entries.entries-index c.entries-item.result c.requires.below
    (omega arith) c.entries-item.is)
