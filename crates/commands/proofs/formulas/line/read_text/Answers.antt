use Rattle.std.proofs.Common.{◌≡◌, ◌++◌, ◌∷◌, [], false, eq-eqb, length-append, arith}
use Rattle.io_edge.proofs.ToldLemmas.{Consumes-trans, Consumes-kept}
use Rattle.std.proofs.lemmas.Bool.{ne_eqb}
use Rattle.std.proofs.lemmas.Result.{err_from_is_err_and}
use Rattle.io_edge.specs.Told.{IsOver}
use Rattle.io_edge.specs.Feed.{to_come}
use Rattle.commands.specs.Equations.Front.{is_line_end}
use Rattle.commands.proofs.FormulaLemmas.CompiledLemmas.{text_failed}
use Rattle.commands.proofs.Inputs.LineLemmas.{unended_push, line_ended, line_cut, line_longer}
use Rattle.commands.proofs.formulas.line.read_text.Goals as goal

pub returns-in_err-byte-clause-answer : goal.returns-in_err-byte-clause-answer
returns-in_err-byte-clause-answer g c =
    let before = c.loop-text in
    let told = g.S.Source.told in
    let p = err_from_is_err_and c.from_residual.result c.from_residual.ensures.1 in
    rw (p.1, p.2) (text_failed before.text.items (to_come c.args.feed.now (told c.args.source.now)) (to_come before.feed (told before.source))
    (to_come c.byte.new.self (told c.byte.new.source)) before.feed c.byte.new.self c.in_err-byte.field-0.0
    before.invariant.consumed before.invariant.taken before.invariant.short before.invariant.unended c.in_err-byte.ensures.answer)

pub returns-then-byte-eq10-clause-answer : goal.returns-then-byte-eq10-clause-answer
returns-then-byte-eq10-clause-answer g c =
    let given = rw c.in-Some.is at c.in_ok-byte.ensures.answer in
    let before = c.loop-text in
    let text = before.text.items in
    let grown = length-append text (c.in-Some.byte ∷ []) in (
      text ++ c.in-Some.byte ∷ [],
      Consumes-trans _ (to_come before.feed (g.S.Source.told before.source)) _ text (c.in-Some.byte ∷ []) before.invariant.consumed given.0,
      (
        omega (arith, given.2, before.invariant.taken, grown),
        before.invariant.short,
        omega (arith, grown),
        line_ended 65536 text c.in-Some.byte (IsOver (to_come c.byte.new.self (g.S.Source.told c.byte.new.source))) before.invariant.unended (eq-eqb c.in-Some.byte 10 c.if-byte-eq10.true),
      ),
    )

pub returns-then-len-eq-FORMULA_LIMIT-clause-answer : goal.returns-then-len-eq-FORMULA_LIMIT-clause-answer
returns-then-len-eq-FORMULA_LIMIT-clause-answer g c =
    let given = rw c.in-Some.is at c.in_ok-byte.ensures.answer in
    let before = c.loop-text in
    let text = before.text.items in
    let grown = length-append text (c.in-Some.byte ∷ []) in
    let other : is_line_end c.in-Some.byte ≡ false = ne_eqb c.in-Some.byte 10 c.if-byte-eq10.false in (
      text ++ c.in-Some.byte ∷ [],
      Consumes-trans _ (to_come before.feed (g.S.Source.told before.source)) _ text (c.in-Some.byte ∷ []) before.invariant.consumed given.0,
      (
        omega (arith, grown, before.invariant.short),
        λ more.
            let longer = line_longer (text ++ c.in-Some.byte ∷ []) more (unended_push text c.in-Some.byte before.invariant.unended other) in
            omega (arith, longer, grown, c.if-len-eq-FORMULA_LIMIT.true, c.len.ensures),
      ),
    )

pub returns-in_err-append-clause-answer : goal.returns-in_err-append-clause-answer
returns-in_err-append-clause-answer g c =
    let given = rw c.in-Some.is at c.in_ok-byte.ensures.answer in
    let before = c.loop-text in
    let grown = length-append before.text.items (c.in-Some.byte ∷ []) in
    let p = err_from_is_err_and c.from_residual-in_err-append.result c.from_residual-in_err-append.ensures.1 in (
      before.text.items ++ c.in-Some.byte ∷ [],
      Consumes-trans _ (to_come before.feed (g.S.Source.told before.source)) _ before.text.items (c.in-Some.byte ∷ []) before.invariant.consumed given.0,
      rw (p.1, p.2) (omega (arith, grown, before.invariant.short)),
    )

pub returns-clause-answer : goal.returns-clause-answer
returns-clause-answer g c =
    let given = rw c.in_default.is at c.in_ok-byte.ensures.answer in
    let before = c.loop-text in
    let text = before.text.items in (
      text,
      Consumes-kept _ (to_come before.feed (g.S.Source.told before.source)) _ text before.invariant.consumed given.0,
      (
        omega (arith, given.3, before.invariant.taken),
        before.invariant.short,
        omega arith,
        line_cut 65536 text (IsOver (to_come c.byte.new.self (g.S.Source.told c.byte.new.source))) before.invariant.unended given.1,
      ),
    )
