-- What the code's values are among the definitions.
use Rattle.std.specs.Prelude.{List, Option, option_map, Vec}
use Rattle.std.proofs.Common.{Global}
use Rattle.std.specs.Ordering.{nat_cmp}
use Rattle.std.specs.BTreeMap.{get}
use Rattle.icode.specs.declared.program.Stmt.{Stmt}
use Rattle.icode.specs.Plain.{PlainBody, plain_body, plain_phases}
use Rattle.renumbered_registers.specs.declared.numbering.Numbering.{Numbering}
use Rattle.renumbered_registers.specs.Renumbered as plain

abbrev pub plain_numbering : Numbering → plain.Numbering
plain_numbering z = record { next = z.next; numbers = λ r. get nat_cmp z.numbers r }

abbrev pub body_made : Option (Vec Stmt Global) → Option PlainBody
body_made = option_map (λ (stmts : Vec Stmt Global). plain_body stmts.items)

abbrev pub phases_made : Option (Vec (Vec Stmt Global) Global) → Option (List PlainBody)
phases_made = option_map (λ (phases : Vec (Vec Stmt Global) Global). plain_phases phases.items)
