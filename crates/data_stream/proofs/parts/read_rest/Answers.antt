use Rattle.std.proofs.Common.{◌++◌, ◌∷◌, [], arith, length-append}
use Rattle.io_edge.proofs.ToldLemmas.{Consumes-trans}
use Rattle.std.proofs.lemmas.Result.{err_from_is_err_and}
use Rattle.io_edge.specs.Feed.{to_come}
use Rattle.data_stream.proofs.parts.read_rest.Goals as goal

pub returns-then-len-most-clause-answer : goal.returns-then-len-most-clause-answer
returns-then-len-most-clause-answer g c =
    let given = rw c.in-Some.is at c.in_ok-byte.ensures.answer in
    let before = c.loop-text in
    let grown = length-append before.text.items (c.in-Some.byte ∷ []) in (
      before.text.items ++ c.in-Some.byte ∷ [],
      Consumes-trans _ (to_come before.feed (g.S.Source.told before.source)) _ before.text.items (c.in-Some.byte ∷ []) before.invariant.consumed given.0,
      omega (arith, grown, c.if-len-most.true, c.len.ensures),
    )

pub returns-in_err-append-clause-answer : goal.returns-in_err-append-clause-answer
returns-in_err-append-clause-answer g c =
    let given = rw c.in-Some.is at c.in_ok-byte.ensures.answer in
    let before = c.loop-text in
    let grown = length-append before.text.items (c.in-Some.byte ∷ []) in
    let p = err_from_is_err_and c.from_residual-in_err-append.result c.from_residual-in_err-append.ensures.1 in (
      before.text.items ++ c.in-Some.byte ∷ [],
      Consumes-trans _ (to_come before.feed (g.S.Source.told before.source)) _ before.text.items (c.in-Some.byte ∷ []) before.invariant.consumed given.0,
      rw (p.1, p.2) (omega (arith, grown, before.invariant.short)),
    )
