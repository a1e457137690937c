use Rattle.std.proofs.Common.{ℕ, ◌*◌, ◌%◌, ◌++◌, ◌∷◌, [], List, ap₂, sym, ◌∙◌, arith}
use Rattle.std.proofs.lemmas.List.FromFn.{map-range_with_len_more}
use Rattle.ring_mod.specs.Residue.{power_mod}
use Rattle.ring_mod.proofs.Powers.{power_mod-zero}
use Rattle.code_gen.proofs.Powers.{power-more}
use Rattle.code_gen.proofs.tables.powers.Goals as goal

pub loop-init : goal.loop-init
loop-init c = (c.new-items.ensures.items, c.reduce-power.ensures.value ∙ sym (power_mod-zero c.args.modulus.now c.args.root), c.reduce-power.ensures.residue)

pub loop-preserved : goal.loop-preserved
loop-preserved c =
    let m = c.args.modulus.now in
    let so_far = c.loop.invariant in
    let e = c.loop.counter in (
      c.in_ok-push.ensures.items
          ∙ ap₂ (λ (xs : List ℕ) x. xs ++ x ∷ []) so_far.0 so_far.1
          ∙ sym (map-range_with_len_more (power_mod m c.args.root) 0 e e (omega arith)),
      c.mul-power.ensures.value ∙ ap₂ (λ x y. (x * y) % m) so_far.1 c.reduce-base.ensures.value ∙ sym (power-more m c.args.root e),
      c.mul-power.ensures.residue,
    )
