use Rattle.std.proofs.Common.{ℕ, ◌++◌, ◌∷◌, [], List, length, ap, ap₂, sym, ◌∙◌, arith, slice_index}
use Rattle.std.proofs.lemmas.List.FromFn.{map-range_with_len_more}
use Rattle.index_fn.specs.Mapping.{at}
use Rattle.sigma_spl.specs.Nest.{inner_of}
use Rattle.code_gen.proofs.factors.spread.Goals as goal

pub loop-place-preserved : goal.loop-place-preserved
loop-place-preserved c =
    let inner : List ℕ = c.args.inner.now in
    let g : ℕ → ℕ = λ i. slice_index inner (at (inner_of c.args.path.now (length inner)) i) in
    let place : ℕ = c.loop-place.place in
    c.in_ok-push.ensures.items
    ∙ ap₂ (λ (xs : List ℕ) x. xs ++ x ∷ []) c.loop-place.invariant (ap (slice_index inner) c.inner_place.ensures.value)
    ∙ sym (map-range_with_len_more g 0 place place (omega arith))
