-- The code of a diagonal.
use Rattle.std.proofs.Common.{◌≡◌, ℕ, ◌+◌, ◌-◌, ◌*◌, ◌%◌, ◌<◌, Bool, true, false, arith, refl, sym, ap, ap₂, ◌∙◌, List}
use Rattle.std.proofs.Common.{[], ◌∷◌, length, mod-lt, mul_comm, if◌then◌else◌}
use Rattle.std.specs.Prelude.{◌==◌, slice_index}
use Rattle.std.proofs.Math.Nat.{one-mul, mul-one, mod-eq_of_lt}
use Rattle.std.proofs.lemmas.Bool.{eqb-true}
use Rattle.icode.proofs.SequenceLemmas.ByLane.{this_register, other_register}
use Rattle.operators.specs.Operator.{Operator, scale, block, on_each_block}
use Rattle.operators.specs.Sum.{sum_below, list_below}
use Rattle.operators.proofs.Lists.{length-list_below, list_below-same_rows, row-of, column-of}
use Rattle.ring_mod.proofs.LastResidue.{last_times}
use Rattle.kernel_gen.specs.declared.straight.KernelOp.TheVariants.{Neg, Mul}
use Rattle.kernel_gen.specs.Making.{factor_make, diagonal_make}
use Rattle.tree_model.specs.KernelCosts.{product_cost}
use Rattle.kernel_gen.proofs.Below.{AllBelow}
use Rattle.kernel_gen.proofs.Pieces.{Does, DoesAt, piece, does-as, does-size}
use Rattle.kernel_gen.proofs.Rows.{in_rows}

abbrev factor_on : ℕ → ℕ → Operator
factor_on m c x = scale m 1 (λ _. c) x

module _ (m weight : ℕ) (positive : 0 < m) where
  factor-at : (c i next : ℕ) → c < m → i < next → DoesAt m weight 1 (product_cost weight m 1 c)
      (i ∷ []) next (factor_make m c (i ∷ []) next) (factor_on m c)
  factor-at c i next residue low = pick (c == 1) (c == m - 1) refl refl
    where
      pick : (one last : Bool) → (c == 1) ≡ one → (c == m - 1) ≡ last →
          DoesAt m weight 1 (if one then 0 else (if last then 1 else weight)) (i ∷ []) next
          (if one then record { code = []; outs = i ∷ []; next = next }
          else if last then record { code = Neg next i ∷ []; outs = next ∷ []; next = next + 1 }
          else record { code = Mul next i c ∷ []; outs = next ∷ []; next = next + 1 })
          (factor_on m c)
      pick true last is other =
          record {
            next_is = omega arith;
            kept = λ g r under. refl;
            within = tt;
            ordered = tt;
            below = (low, tt);
            sized = refl;
            costs = refl;
            values = λ g small. ap (λ z. z ∷ []) (sym (mod-eq_of_lt small.0) ∙ ap (λ z. z % m) (sym (one-mul (g i)) ∙ ap (λ z. z * g i) (sym (eqb-true c 1 is))));
          }
      pick false true other is =
          record {
            next_is = omega arith;
            kept = λ g r under. other_register g r next _ (omega arith);
            within = ((omega arith, omega arith), tt);
            ordered = ((refl, low), tt);
            below = (omega arith, tt);
            sized = refl;
            costs = refl;
            values = λ g small.
                let below : g i < m = small.0 in
                ap (λ z. z ∷ []) (this_register g next ((m - g i) % m) ∙ sym (last_times m (g i) positive (omega arith)) ∙ ap (λ z. (z * g i) % m) (sym (eqb-true c (m - 1) is)));
          }
      pick false false other others =
          record {
            next_is = omega arith;
            kept = λ g r under. other_register g r next _ (omega arith);
            within = ((omega arith, omega arith, residue), tt);
            ordered = ((refl, low), tt);
            below = (omega arith, tt);
            sized = refl;
            costs = omega arith;
            values = λ g small. ap (λ z. z ∷ []) (this_register g next ((g i * c) % m) ∙ ap (λ z. z % m) (mul_comm (g i) c));
          }

  does-factor : (c : ℕ) → c < m → Does m weight 1 1 (product_cost weight m 1 c) (factor_make m c) (factor_on m c)
  does-factor c residue =
      record { at = at; residues = λ x size small. (mod-lt _ positive, tt); width = λ x size. refl }
    where
      at : (ins : List ℕ) (next : ℕ) → length ins ≡ 1 → AllBelow next ins →
          DoesAt m weight 1 (product_cost weight m 1 c) ins next (factor_make m c ins next) (factor_on m c)
      at [] next size under = absurd (omega arith)
      at (i ∷ []) next size under = factor-at c i next residue under.0
      at (i ∷ j ∷ ins) next size under = absurd (omega arith)

  factors-diagonal : (n : ℕ) (c : ℕ → ℕ) (x : List ℕ) → on_each_block n 1 (λ k. factor_on m (c k)) x ≡ scale m n c x
  factors-diagonal n c x =
      list_below-same_rows n 1 _ (λ p. (c p * slice_index x p) % m) (λ a b row below.
      let first : b ≡ 0 = omega arith in
      let place : a * 1 + b ≡ a = omega arith in
      ap₂ (λ i j. slice_index (factor_on m (c i) (block 1 i x)) j) (row-of a b 1 below) (column-of a b 1 below ∙ first)
      ∙ ap (λ i. (c a * slice_index x i) % m) (omega arith)
      ∙ sym (ap (λ p. (c p * slice_index x p) % m) place))
      ∙ ap (λ k. list_below k (λ p. (c p * slice_index x p) % m)) (mul-one n)

  pub does-diagonal : (n : ℕ) (c : ℕ → ℕ) → ((k : ℕ) → c k < m) →
      Does m weight n n (sum_below n (λ k. product_cost weight m 1 (c k))) (diagonal_make m n c) (scale m n c)
  does-diagonal n c residues =
      let price = sum_below n (λ k. product_cost weight m 1 (c k)) in
      does-size m weight (n * 1) n (n * 1) n price (diagonal_make m n c) (scale m n c) (mul-one n) (mul-one n)
      (does-as m weight (in_rows m weight n 1 (λ k. piece m weight (does-factor (c k) (residues k)))) price (scale m n c) refl
      (λ x size small. factors-diagonal n c x)
      (λ x size. length-list_below n _ ∙ sym (mul-one n)))
