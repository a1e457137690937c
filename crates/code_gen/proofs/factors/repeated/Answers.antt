use Rattle.std.proofs.Common.{ℕ, ◌++◌, ◌∷◌, [], List, ap, sym, ◌∙◌, arith}
use Rattle.std.proofs.lemmas.List.FromFn.{map-range_with_len_more}
use Rattle.code_gen.proofs.factors.repeated.Goals as goal

pub loop-preserved : goal.loop-preserved
loop-preserved c =
    let e = c.loop.counter in
    c.in_ok-push.ensures.items
    ∙ ap (λ (xs : List ℕ). xs ++ c.args.factor ∷ []) c.loop.invariant
    ∙ sym (map-range_with_len_more (λ _. c.args.factor) 0 e e (omega arith))
