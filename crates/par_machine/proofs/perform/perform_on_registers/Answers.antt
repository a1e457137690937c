use Rattle.std.proofs.Common.{ℕ, ◌<◌, ◌≤◌, ◌+◌, ◌*◌, ◌-◌, ◌∙◌, ap₂, sym, subst, arith, All, List, [], length}
use Rattle.std.specs.Prelude.{slice_index_or}
use Rattle.icode.specs.Expression.{sum_numbers}
use Rattle.icode.specs.Plain.{plain_expr, plain_tables}
use Rattle.icode.proofs.Transposes.{tile_words}
use Rattle.icode.specs.Registers.{table_factors}
use Rattle.par_machine.proofs.Tables.{table_is}
use Rattle.par_machine.proofs.perform.perform_on_registers.Goals as goal

pub scale_by_entries-requires-clause-factors : goal.scale_by_entries-requires-clause-factors
scale_by_entries-requires-clause-factors c =
    let shape = c.args.header.now.shape in
    let tables = c.args.header.now.tables.items in
    let entries = slice_index_or (plain_tables tables) c.in-MulTable.table [] in
    let at = (sum_numbers (plain_expr c.in-MulTable.place) c.args.values.now c.args.proc).value in
    let step = c.in-MulTable.step in
    let within : at + step * (shape.lanes - 1) + 1 ≤ length entries = rw c.in-MulTable.is at c.requires.fits.place in
    let below : All (λ f. f < shape.modulus) (table_factors shape.lanes entries at step) = rw c.in-MulTable.is at c.requires.fits.factors in
    let same = table_is tables c.in-MulTable.table c.index-entries.result.now (omega (arith, within)) c.index-entries.ensures in
    subst (λ (xs : List ℕ). All (λ f. f < shape.modulus) xs)
    (ap₂ (λ (es : List ℕ) (n : ℕ). table_factors shape.lanes es n step) (same ∙ sym c.deref.ensures.value) (sym c.value-at.ensures)) below

pub transpose-requires-clause-apart : goal.transpose-requires-clause-apart
transpose-requires-clause-apart c =
    let shape = c.args.header.now.shape in
    tile_words shape.lanes c.in-Tile.register c.in-Tile.source shape.regs (rw c.in-Tile.is at c.requires.fits.registers)
