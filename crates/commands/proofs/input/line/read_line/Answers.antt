use Rattle.std.proofs.Common.{◌≡◌, ◌++◌, ◌∷◌, [], false, eq-eqb, length-append, arith, take}
use Rattle.commands.specs.Equations.Front.{is_line_end}
use Rattle.std.proofs.lemmas.List.{length-take-le}
use Rattle.std.proofs.lemmas.Bool.{ne_eqb}
use Rattle.io_edge.proofs.ToldLemmas.{Consumes-trans, Consumes-kept}
use Rattle.io_edge.specs.Told.{IsOver}
use Rattle.io_edge.specs.Feed.{to_come}
use Rattle.commands.proofs.Inputs.LineLemmas.{unended_push, line_ended, line_cut, line_longer}
use Rattle.commands.proofs.input.line.read_line.Goals as goal

pub returns-then-byte-eq10-clause-answer : goal.returns-then-byte-eq10-clause-answer
returns-then-byte-eq10-clause-answer g c =
    let given = rw c.in-Some.is at c.in_ok-byte.ensures.answer in
    let before = c.loop-byte in
    let text = take before.count before.buffer in
    let count = length-take-le before.count before.buffer (omega (arith, before.invariant.short, c.requires.room)) in
    let grown = length-append text (c.in-Some.byte ∷ []) in (
      text ++ c.in-Some.byte ∷ [],
      Consumes-trans _ (to_come before.feed (g.S.Source.told before.source)) _ text (c.in-Some.byte ∷ []) before.invariant.consumed given.0,
      (
        omega (arith, given.2, before.invariant.taken, count, grown),
        before.invariant.short,
        omega (arith, given.2, before.invariant.taken),
        line_ended 256 text c.in-Some.byte (IsOver (to_come c.byte.new.self (g.S.Source.told c.byte.new.source))) before.invariant.unended (eq-eqb c.in-Some.byte 10 c.if-byte-eq10.true),
      ),
    )

pub returns-then-count-eq-LINE_LIMIT-clause-answer : goal.returns-then-count-eq-LINE_LIMIT-clause-answer
returns-then-count-eq-LINE_LIMIT-clause-answer g c =
    let given = rw c.in-Some.is at c.in_ok-byte.ensures.answer in
    let before = c.loop-byte in
    let text = take before.count before.buffer in
    let count = length-take-le before.count before.buffer (omega (arith, before.invariant.short, c.requires.room)) in
    let grown = length-append text (c.in-Some.byte ∷ []) in
    let other : is_line_end c.in-Some.byte ≡ false = ne_eqb c.in-Some.byte 10 c.if-byte-eq10.false in (
      text ++ c.in-Some.byte ∷ [],
      Consumes-trans _ (to_come before.feed (g.S.Source.told before.source)) _ text (c.in-Some.byte ∷ []) before.invariant.consumed given.0,
      (
        omega (arith, grown, count, before.invariant.short),
        λ more.
            let longer = line_longer (text ++ c.in-Some.byte ∷ []) more (unended_push text c.in-Some.byte before.invariant.unended other) in
            omega (arith, longer, grown, count, c.if-count-eq-LINE_LIMIT.true),
      ),
    )

pub returns-clause-answer : goal.returns-clause-answer
returns-clause-answer g c =
    let given = rw c.in_default.is at c.in_ok-byte.ensures.answer in
    let before = c.loop-byte in
    let text = take before.count before.buffer in
    let count = length-take-le before.count before.buffer (omega (arith, before.invariant.short, c.requires.room)) in (
      text,
      Consumes-kept _ (to_come before.feed (g.S.Source.told before.source)) _ text before.invariant.consumed given.0,
      (
        omega (arith, given.3, before.invariant.taken, count),
        before.invariant.short,
        omega (arith, given.3, before.invariant.taken),
        line_cut 256 text (IsOver (to_come c.byte.new.self (g.S.Source.told c.byte.new.source))) before.invariant.unended given.1,
      ),
    )
