use Rattle.std.proofs.Common.{◌++◌, ◌∷◌, [], sym, ◌∙◌, arith, length-append}
use Rattle.io_edge.proofs.ToldLemmas.{Consumes-trans, Consumes-kept}
use Rattle.std.proofs.lemmas.Result.{err_from_is_err_and}
use Rattle.io_edge.specs.Told.{IsOver}
use Rattle.io_edge.specs.Feed.{to_come}
use Rattle.data_stream.specs.Parts.Part.{ends_line}
use Rattle.data_stream.proofs.TwoParts.PartLemmas.{front_push, part_ended, part_cut, part_longer, part_failed}
use Rattle.data_stream.proofs.parts.part.read_part.Goals as goal

pub returns-in_err-byte-clause-answer : goal.returns-in_err-byte-clause-answer
returns-in_err-byte-clause-answer g c =
    let before = c.loop-text in
    let told = g.S.Source.told in
    let p = err_from_is_err_and c.from_residual.result c.from_residual.ensures.1 in
    rw (p.1, p.2) (part_failed c.args.most c.args.feed.now.taken before.text.items before.begins (to_come c.args.feed.now (told c.args.source.now)) (to_come before.feed (told before.source))
    (to_come c.byte.new.self (told c.byte.new.source)) before.feed c.byte.new.self c.in_err-byte.field-0.0
    before.invariant.consumed before.invariant.taken before.invariant.short c.requires before.invariant.front c.in_err-byte.ensures.answer)

pub returns-then-ends_part-clause-answer : goal.returns-then-ends_part-clause-answer
returns-then-ends_part-clause-answer g c =
    let given = rw c.in-Some.is at c.in_ok-byte.ensures.answer in
    let before = c.loop-text in
    let text = before.text.items in
    let grown = length-append text (c.in-Some.byte ∷ []) in (
      text ++ c.in-Some.byte ∷ [],
      Consumes-trans _ (to_come before.feed (g.S.Source.told before.source)) _ text (c.in-Some.byte ∷ []) before.invariant.consumed given.0,
      (
        omega (arith, given.2, before.invariant.taken, grown),
        before.invariant.short,
        omega (arith, grown),
        part_ended text before.begins c.in-Some.byte (IsOver (to_come c.byte.new.self (g.S.Source.told c.byte.new.source))) before.invariant.front (sym c.ends_part.ensures ∙ c.if-ends_part.true),
      ),
    )

pub returns-then-len-most-clause-answer : goal.returns-then-len-most-clause-answer
returns-then-len-most-clause-answer g c =
    let given = rw c.in-Some.is at c.in_ok-byte.ensures.answer in
    let before = c.loop-text in
    let text = before.text.items in
    let grown = length-append text (c.in-Some.byte ∷ []) in (
      text ++ c.in-Some.byte ∷ [],
      Consumes-trans _ (to_come before.feed (g.S.Source.told before.source)) _ text (c.in-Some.byte ∷ []) before.invariant.consumed given.0,
      (
        omega (arith, grown, before.invariant.short),
        λ more.
            let longer = part_longer (text ++ c.in-Some.byte ∷ []) more (ends_line c.in-Some.byte) (front_push text before.begins c.in-Some.byte before.invariant.front (sym c.ends_part.ensures ∙ c.if-ends_part.false)) in
            omega (arith, longer, grown, c.if-len-most.true, c.len.ensures),
      ),
    )

pub returns-in_err-append-clause-answer : goal.returns-in_err-append-clause-answer
returns-in_err-append-clause-answer g c =
    let given = rw c.in-Some.is at c.in_ok-byte.ensures.answer in
    let before = c.loop-text in
    let grown = length-append before.text.items (c.in-Some.byte ∷ []) in
    let p = err_from_is_err_and c.from_residual-in_err-append.result c.from_residual-in_err-append.ensures.1 in (
      before.text.items ++ c.in-Some.byte ∷ [],
      Consumes-trans _ (to_come before.feed (g.S.Source.told before.source)) _ before.text.items (c.in-Some.byte ∷ []) before.invariant.consumed given.0,
      rw (p.1, p.2) (omega (arith, grown, before.invariant.short)),
    )

pub returns-clause-answer : goal.returns-clause-answer
returns-clause-answer g c =
    let given = rw c.in_default.is at c.in_ok-byte.ensures.answer in
    let before = c.loop-text in
    let text = before.text.items in (
      text,
      Consumes-kept _ (to_come before.feed (g.S.Source.told before.source)) _ text before.invariant.consumed given.0,
      (
        omega (arith, given.3, before.invariant.taken),
        before.invariant.short,
        omega arith,
        part_cut text before.begins (IsOver (to_come c.byte.new.self (g.S.Source.told c.byte.new.source))) before.invariant.front given.1,
      ),
    )
