use Rattle.std.proofs.Common.{Err, arith, subst}
use Rattle.std.proofs.lemmas.Result.{err_from_is_err_and}
use Rattle.spiral_words.specs.Statuses.Status.{IsDefined}
use Rattle.commands.specs.Equations.Compile.{compile_work}
use Rattle.commands.specs.Equations.Formulas.{written}
use Rattle.commands.specs.Equations.Front.{line}
use Rattle.commands.proofs.Inputs.FrontLemmas.{text_refused}
use Rattle.commands.proofs.FormulaLemmas.CompiledLemmas.{line_unread, compile_told, compile_cut}
use Rattle.commands.proofs.formulas.compile.compile.Goals as goal

pub returns-in_err-text-clause-told : goal.returns-in_err-text-clause-told
returns-in_err-text-clause-told g c =
    let told = c.in_err-text.ensures.told in
    let p = err_from_is_err_and c.from_residual.result c.from_residual.ensures.1 in
    rw (p.1, p.2, told.2.1) (line_unread written (compile_work c.args.modulus.now) _ _ _ c.formula_line.new.feed.taken told.0 told.2.0 told.1 told.2.2)

pub returns-in_err-listing-clause-told : goal.returns-in_err-listing-clause-told
returns-in_err-listing-clause-told g c =
    let told = c.in_ok-text.ensures.told in
    let refused = subst (λ t. IsDefined c.in_err-listing.field-0.0 → written t (Err c.in_err-listing.field-0.0)) c.deref.ensures.value c.in_err-listing.ensures.refused in
    let p = err_from_is_err_and c.from_residual-in_err-listing.result c.from_residual-in_err-listing.ensures.1 in
    rw (p.1, p.2) (text_refused (line 65536) written (compile_work c.args.modulus.now) _ _ _ c.formula_line.new.feed.taken told.0 c.in_ok-text.text.items c.in_err-listing.field-0.0
    told.1 (omega (arith, told.2.1, told.2.2)) told.2.3 told.2.1 refused c.in_err-listing.ensures.refusal)

pub returns-in_err-write_all-clause-told : goal.returns-in_err-write_all-clause-told
returns-in_err-write_all-clause-told g c =
    let told = c.in_ok-text.ensures.told in
    let made = rw c.deref.ensures.value at c.in_ok-listing.ensures.text in
    let wrote = rw c.deref-2.ensures.value at c.in_err-write_all.ensures.bytes in
    let p = err_from_is_err_and c.from_residual-in_err-write_all.result c.from_residual-in_err-write_all.ensures.1 in
    rw (p.1, p.2) (compile_cut c.args.modulus.now _ _ _ _ c.formula_line.new.feed.taken told.0 c.in_ok-text.text.items c.in_ok-listing.listing.items
    told.1 (omega (arith, told.2.1, told.2.2)) told.2.0 told.2.3 told.2.1 made wrote)

pub returns-clause-told : goal.returns-clause-told
returns-clause-told g c =
    let told = c.in_ok-text.ensures.told in
    let made = rw c.deref.ensures.value at c.in_ok-listing.ensures.text in
    let wrote = rw c.deref-2.ensures.value at c.in_ok-write_all.ensures.bytes in
    compile_told c.args.modulus.now _ _ _ _ c.formula_line.new.feed.taken told.0 c.in_ok-text.text.items c.in_ok-listing.listing.items
    told.1 (omega (arith, told.2.1, told.2.2)) told.2.0 told.2.3 told.2.1 made wrote
