use Rattle.std.proofs.Common.{◌≡◌, take}
use Rattle.icode.specs.Plain.{plain_tables}
use Rattle.word_code.specs.Quicken.{quotients_of}
use Rattle.word_code.specs.Views.{lazy_of}
use Rattle.word_code.proofs.quicken.quotient_tables.Given as goal

abbrev pub invariant-loop-entries : goal.invariant-loop-entries
invariant-loop-entries l = plain_tables l.made.items ≡ quotients_of (lazy_of l.laziness) l.modulus (plain_tables (take l.entries-index l.tables))
