use Rattle.std.proofs.Common.{◌≡◌, ℕ, List, Vec, Global, ap₂, ◌∙◌, arith}
use Rattle.icode.specs.Plain.{plain_tables}
use Rattle.code_gen.specs.PassCode.Statements.{table_number}
use Rattle.code_gen.proofs.CodeTables.{shared-new, shared-old}
use Rattle.code_gen.proofs.tables.share_table.Goals as goal

pub returns-in_ok-push-clause-tables : goal.returns-in_ok-push-clause-tables
returns-in_ok-push-clause-tables c =
    let tables = c.args.tables.now.items in
    let entries = c.args.entries in
    let number : c.find_table-number.result ≡ table_number (plain_tables tables) entries.items =
    c.find_table-number.ensures ∙ ap₂ (λ (ts : List (Vec ℕ Global)) (e : List ℕ). table_number (plain_tables ts) e) c.deref.ensures.value c.deref-2.ensures.value in
    shared-new tables c.push.new.self.items entries (omega arith) c.in_ok-push.ensures.items

pub returns-else-number-len-clause-tables : goal.returns-else-number-len-clause-tables
returns-else-number-len-clause-tables c =
    let tables = c.args.tables.now.items in
    let entries = c.args.entries in
    let number : c.find_table-number.result ≡ table_number (plain_tables tables) entries.items =
    c.find_table-number.ensures ∙ ap₂ (λ (ts : List (Vec ℕ Global)) (e : List ℕ). table_number (plain_tables ts) e) c.deref.ensures.value c.deref-2.ensures.value in
    shared-old tables entries (λ same. omega arith)
