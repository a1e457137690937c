use Rattle.std.proofs.Common.{ℕ, ◌*◌, ◌/◌, ◌%◌, ◌++◌, ◌∷◌, [], List, ap, ap₂, sym, ◌∙◌, arith}
use Rattle.std.proofs.lemmas.List.FromFn.{map-range_with_len_more}
use Rattle.kernel_gen.proofs.Reduced.{power_mod-reduced}
use Rattle.matrix_meaning.specs.Laws.{twiddle}
use Rattle.ring_mod.specs.Residue.{power_mod}
use Rattle.code_gen.proofs.factors.twiddles.Goals as goal

pub loop-place-preserved : goal.loop-place-preserved
loop-place-preserved c =
    let m : ℕ = c.args.modulus.now in
    let g : ℕ → ℕ = twiddle m c.args.cols c.args.root in
    let place : ℕ = c.loop-place.place in
    let e : ℕ = (place / c.args.cols) * (place % c.args.cols) in
    c.in_ok-push.ensures.items
    ∙ ap₂ (λ (xs : List ℕ) x. xs ++ x ∷ []) c.loop-place.invariant (c.pow.ensures.value ∙ ap (λ w. power_mod m w e) c.reduce-base.ensures.value ∙ power_mod-reduced m c.args.root e)
    ∙ sym (map-range_with_len_more g 0 place place (omega arith))
