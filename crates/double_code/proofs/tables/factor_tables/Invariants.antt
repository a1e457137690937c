use Rattle.std.proofs.Common.{◌≡◌, take}
use Rattle.icode.specs.Plain.{plain_tables}
use Rattle.double_code.specs.Doubled.{factors_of}
use Rattle.double_code.specs.Views.{plain_factors}
use Rattle.double_code.proofs.tables.factor_tables.Given as goal

abbrev pub invariant-loop-entries : goal.invariant-loop-entries
invariant-loop-entries l =
    plain_factors l.made.items ≡ factors_of l.modulus (plain_tables (take l.entries-index l.tables))
