use Rattle.std.proofs.Common.{◌≡◌, ◌++◌, drop}
use Rattle.icode.specs.Plain.{plain_tables}
use Rattle.listing_text.specs.Wording.{tables_text}
use Rattle.listing_text.proofs.language.put_tables.Given as goal

abbrev pub invariant-loop-number : goal.invariant-loop-number
invariant-loop-number g l =
    let w = g.L.Language.wording in
    l.out.items ++ tables_text w l.number (plain_tables (drop l.number l.tables)) ≡ l.fn.out.items ++ tables_text w 0 (plain_tables l.tables)
