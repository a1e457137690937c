-- Tensors distribute over products.
use Rattle.std.proofs.Common.{◌≡◌, ℕ, ◌*◌, ◌/◌, ◌%◌, ◌<◌, ◌≤◌, List, ◌∙◌, refl, sym, subst, arith, ap}
use Rattle.std.specs.Prelude.{slice_index}
use Rattle.std.proofs.lemmas.List.FromFn.{fill_by_all}
use Rattle.std.proofs.lemmas.Nat.{mod_below, div_below}
use Rattle.operators.specs.Operator.{column, block, on_columns, on_blocks}
use Rattle.operators.proofs.Lists.{length-list_below, list_below-same, at-on_columns, at-on_blocks}
use Rattle.spl_ast.specs.Distribution.{tensor_weight}
use Rattle.spl_ast.specs.Formula.{Formula, Product, TensorLeft, TensorRight, size_of}
use Rattle.spl_ast.specs.Meaning.{apply, IsSameMatrix}
use Rattle.spl_ast.specs.Rewriting.{Fires}
use Rattle.spl_ast.specs.Shape.{IsShaped}
use Rattle.spl_ast.proofs.Blocks.{length-apply}
use Rattle.spl_ast.proofs.Vectors.{shaped_size}

-- what a formula gives on a column, and on a row
column-apply : (m k j : ℕ) (b : Formula) (x : List ℕ) → IsShaped b → j < k →
    apply m b (column (size_of b) k j x) ≡ column (size_of b) k j (on_columns (size_of b) k (apply m b) x)
column-apply m k j b x shaped below =
    fill_by_all _ (apply m b (column (size_of b) k j x)) (size_of b) 0
    (length-apply m b (column (size_of b) k j x) shaped (length-list_below (size_of b) _))
    (λ i row. sym (at-on_columns (size_of b) k (apply m b) x i j row below))

block-apply : (m k i : ℕ) (b : Formula) (x : List ℕ) → IsShaped b → i < k →
    apply m b (block (size_of b) i x) ≡ block (size_of b) i (on_blocks k (size_of b) (apply m b) x)
block-apply m k i b x shaped below =
    fill_by_all _ (apply m b (block (size_of b) i x)) (size_of b) 0
    (length-apply m b (block (size_of b) i x) shaped (length-list_below (size_of b) _))
    (λ j column. sym (at-on_blocks k (size_of b) (apply m b) x i j below column))

left_of_product : (m k : ℕ) (a b : Formula) → IsShaped b → size_of a ≡ size_of b → 0 < k →
    IsSameMatrix m (TensorLeft (Product a b) k) (Product (TensorLeft a k) (TensorLeft b k))
left_of_product m k a b shaped e pos = record {
  size = refl;
  meaning = λ x v.
      let n = size_of a in
      sym (list_below-same (n * k) _ _ (λ p h.
      ap (λ y. slice_index (apply m a y) (p / k))
      (ap (λ s. apply m b (column s k (p % k) x)) e
      ∙ column-apply m k (p % k) b x shaped (mod_below p k pos)
      ∙ ap (λ s. column s k (p % k) (on_columns (size_of b) k (apply m b) x)) (sym e))));
}

right_of_product : (m k : ℕ) (a b : Formula) → IsShaped b → size_of a ≡ size_of b →
    IsSameMatrix m (TensorRight k (Product a b)) (Product (TensorRight k a) (TensorRight k b))
right_of_product m k a b shaped e = record {
  size = refl;
  meaning = λ x v.
      let n = size_of a in
      sym (list_below-same (k * n) _ _ (λ p h.
      let pos : 0 < n = subst (λ s. 0 < s) (sym e) (shaped_size b shaped) in
      ap (λ y. slice_index (apply m a y) (p % n))
      (ap (λ s. apply m b (block s (p / n) x)) e
      ∙ block-apply m k (p / n) b x shaped (div_below p n k pos h)
      ∙ ap (λ s. block s (p / n) (on_blocks k (size_of b) (apply m b) x)) (sym e))));
}

pub left_distributes : (m k : ℕ) (f a b : Formula) → IsShaped f → f ≡ TensorLeft (Product a b) k →
    Fires m tensor_weight f (Product (TensorLeft a k) (TensorLeft b k))
left_distributes m k f a b h e =
    let s : IsShaped (TensorLeft (Product a b) k) = subst IsShaped e h in
    let sizes : size_of a ≡ size_of b = s.0.2 in
    let done : Fires m tensor_weight (TensorLeft (Product a b) k) (Product (TensorLeft a k) (TensorLeft b k)) =
    record {
      shaped = (
        (s.0.0, s.1, s.2),
        (s.0.1, s.1, subst (λ n. (1 ≤ n * k) × (n * k ≤ 1048576)) sizes s.2),
        ap (λ n. n * k) sizes,
      );
      same = left_of_product m k a b s.0.1 sizes s.1.0;
      falls = omega arith;
    }
    in subst (λ (u : Formula). Fires m tensor_weight u (Product (TensorLeft a k) (TensorLeft b k))) (sym e) done

pub right_distributes : (m k : ℕ) (f a b : Formula) → IsShaped f → f ≡ TensorRight k (Product a b) →
    Fires m tensor_weight f (Product (TensorRight k a) (TensorRight k b))
right_distributes m k f a b h e =
    let s : IsShaped (TensorRight k (Product a b)) = subst IsShaped e h in
    let sizes : size_of a ≡ size_of b = s.1.2 in
    let done : Fires m tensor_weight (TensorRight k (Product a b)) (Product (TensorRight k a) (TensorRight k b)) =
    record {
      shaped = (
        (s.0, s.1.0, s.2),
        (s.0, s.1.1, subst (λ n. (1 ≤ k * n) × (k * n ≤ 1048576)) sizes s.2),
        ap (λ n. k * n) sizes,
      );
      same = right_of_product m k a b s.1.1 sizes;
      falls = omega arith;
    }
    in subst (λ (u : Formula). Fires m tensor_weight u (Product (TensorRight k a) (TensorRight k b))) (sym e) done
