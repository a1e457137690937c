use Rattle.std.proofs.Common.{◌<◌, All, List, ℕ, subst, sym, arith}
use Rattle.word_code.proofs.Wholes.{table_below}
use Rattle.word_code.proofs.quicken.quotient_tables.Goals as goal

pub quotients-requires-clause-below : goal.quotients-requires-clause-below
quotients-requires-clause-below c =
    subst (λ (xs : List ℕ). All (λ v. v < c.args.modulus) xs) (sym c.deref.ensures.value)
    (table_below c.args.modulus c.args.tables.now c.loop-entries.entries-index c.entries-item.result c.requires.below (omega arith) c.entries-item.is)
