use Rattle.std.proofs.Common.{◌≡◌, ◌≢◌, ℕ, ◌+◌, Decides, drop, sym, ◌∙◌, arith}
use Rattle.std.proofs.lemmas.Bool.{false≢true}
use Rattle.std.proofs.lemmas.Bool.Decides.{Decides-eqb}
use Rattle.std.proofs.lemmas.Slice.Eq.{slice_eq-Decides}
use Rattle.icode.specs.Plain.{plain_tables}
use Rattle.code_gen.specs.PassCode.Statements.{table_number}
use Rattle.code_gen.proofs.CodeTables.{find-this, find-other}
use Rattle.code_gen.proofs.tables.find_table.Goals as goal

pub returns-then-eq : goal.returns-then-eq
returns-then-eq c =
    let tables = c.args.tables.now in
    let entries = c.args.entries.now in
    let k : ℕ = c.loop-k.k in
    let same : Decides c.eq.result (c.as_slice.result.now ≡ entries) = slice_eq-Decides Decides-eqb _ _ _ c.eq.ensures in
    let this : table_number (plain_tables (drop k tables)) entries ≡ 0 = find-this tables entries k c.index-tables-k.result (omega arith) c.index-tables-k.is (sym c.as_slice.ensures.value ∙ same.0 c.if-eq.true) in
    let so_far : table_number (plain_tables tables) entries ≡ k + table_number (plain_tables (drop k tables)) entries = c.loop-k.invariant in
    omega arith

pub loop-k-preserved : goal.loop-k-preserved
loop-k-preserved c =
    let tables = c.args.tables.now in
    let entries = c.args.entries.now in
    let k : ℕ = c.loop-k.k in
    let same : Decides c.eq.result (c.as_slice.result.now ≡ entries) = slice_eq-Decides Decides-eqb _ _ _ c.eq.ensures in
    let other : c.index-tables-k.result.items ≢ entries = λ is. false≢true (sym c.if-eq.false ∙ same.1 (c.as_slice.ensures.value ∙ is)) in
    let step = find-other tables entries k c.index-tables-k.result (omega arith) c.index-tables-k.is other in
    let so_far : table_number (plain_tables tables) entries ≡ k + table_number (plain_tables (drop k tables)) entries = c.loop-k.invariant in
    omega arith
