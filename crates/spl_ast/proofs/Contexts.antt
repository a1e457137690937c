-- Rewriting inside a formula.
use Rattle.std.proofs.Common.{◌≡◌, ℕ, ◌+◌, ◌*◌, ◌/◌, ◌%◌, ◌<◌, List, ◌++◌, take, drop, ◌∙◌, sym, refl, subst, arith}
use Rattle.std.proofs.Common.{◌⊎◌, inl, inr, ⊎_elim, ap}
use Rattle.std.specs.Prelude.{slice_index}
use Rattle.std.proofs.lemmas.Nat.{mod_below, div_below}
use Rattle.operators.specs.Operator.{Operator, on_columns, on_blocks}
use Rattle.operators.proofs.Lists.{list_below-same}
use Rattle.spl_ast.specs.Formula.{Formula, Product, TensorLeft, TensorRight, DirectSum, size_of}
use Rattle.spl_ast.specs.Meaning.{apply, IsVector, IsSameMatrix}
use Rattle.spl_ast.specs.Rewriting.{MeasuresParts, Rewrites}
use Rattle.spl_ast.specs.Shape.{IsShaped, IsSize}
use Rattle.spl_ast.proofs.Vectors.{apply_vector, shaped_size, column_vector, block_vector, take_vector, drop_vector}

-- operators that agree on residues agree on columns
pub on_columns-agree : (m r k : ℕ) (f g : Operator) (x : List ℕ) → 0 < k → IsVector m (r * k) x →
    ((y : List ℕ) → IsVector m r y → g y ≡ f y) → on_columns r k g x ≡ on_columns r k f x
on_columns-agree m r k f g x pos v same =
    list_below-same (r * k) _ _ (λ p h. ap (λ (y : List ℕ). slice_index y (p / k)) (same _ (column_vector m r k (p % k) x (mod_below p k pos) v)))

-- and on blocks
pub on_blocks-agree : (m k r : ℕ) (f g : Operator) (x : List ℕ) → 0 < r → IsVector m (k * r) x →
    ((y : List ℕ) → IsVector m r y → g y ≡ f y) → on_blocks k r g x ≡ on_blocks k r f x
on_blocks-agree m k r f g x pos v same =
    list_below-same (k * r) _ _ (λ p h. ap (λ (y : List ℕ). slice_index y (p % r)) (same _ (block_vector m k r (p / r) x (div_below p r k pos h) v)))

pub same_left : (m : ℕ) (a c : Formula) (k : ℕ) → 0 < k → IsSameMatrix m a c →
    IsSameMatrix m (TensorLeft a k) (TensorLeft c k)
same_left m a c k pos s =
    record {
      size = ap (λ n. n * k) s.size;
      meaning = λ x v.
          ap (λ n. on_columns n k (apply m c) x) s.size
          ∙ on_columns-agree m (size_of a) k (apply m a) (apply m c) x pos v s.meaning;
    }

pub same_right : (m : ℕ) (a c : Formula) (k : ℕ) → 0 < size_of a → IsSameMatrix m a c →
    IsSameMatrix m (TensorRight k a) (TensorRight k c)
same_right m a c k pos s =
    record {
      size = ap (λ n. k * n) s.size;
      meaning = λ x v.
          ap (λ n. on_blocks k n (apply m c) x) s.size
          ∙ on_blocks-agree m k (size_of a) (apply m a) (apply m c) x pos v s.meaning;
    }

pub same_product : (m : ℕ) (a b c d : Formula) → IsShaped b → size_of a ≡ size_of b → IsSameMatrix m a c →
    IsSameMatrix m b d → IsSameMatrix m (Product a b) (Product c d)
same_product m a b c d h e s t =
    record {
      size = s.size;
      meaning = λ x v.
          let w : IsVector m (size_of b) x = subst (λ (n : ℕ). IsVector m n x) e v in
          ap (apply m c) (t.meaning x w)
          ∙ s.meaning (apply m b x) (subst (λ (n : ℕ). IsVector m n (apply m b x)) (sym e) (apply_vector m b x h w));
    }

pub same_sum : (m : ℕ) (a b c d : Formula) → IsSameMatrix m a c → IsSameMatrix m b d →
    IsSameMatrix m (DirectSum a b) (DirectSum c d)
same_sum m a b c d s t =
    record {
      size = ap (λ n. n + size_of d) s.size ∙ ap (λ n. size_of a + n) t.size;
      meaning = λ x v.
          ap (λ n. apply m c (take n x) ++ apply m d (drop n x)) s.size
          ∙ ap (λ y. y ++ apply m d (drop (size_of a) x)) (s.meaning _ (take_vector m (size_of a) (size_of b) x v))
          ∙ ap (λ y. apply m a (take (size_of a) x) ++ y) (t.meaning _ (drop_vector m (size_of a) (size_of b) x v));
    }

pub same_refl : (m : ℕ) (f : Formula) → IsSameMatrix m f f
same_refl m f = record { size = refl; meaning = λ x v. refl }

pub same_trans : (m : ℕ) (f g h : Formula) → IsSameMatrix m f g → IsSameMatrix m g h → IsSameMatrix m f h
same_trans m f g h s t =
    record {
      size = t.size ∙ s.size;
      meaning = λ x v. t.meaning x (subst (λ (n : ℕ). IsVector m n x) (sym s.size) v) ∙ s.meaning x v;
    }

-- the same formula, or one with a smaller measure
abbrev NotAbove : (Formula → ℕ) → Formula → Formula → Type 0
NotAbove measure f g = (g ≡ f) ⊎ (measure g < measure f)

then_not_above : (measure : Formula → ℕ) (f g h : Formula) → NotAbove measure f g → NotAbove measure g h →
    NotAbove measure f h
then_not_above measure f g h p q =
    ⊎_elim
    (λ e. subst (λ (u : Formula). NotAbove measure u h) e q)
    (λ l. ⊎_elim
    (λ e. inr (subst (λ (u : Formula). measure u < measure f) (sym e) l))
    (λ k. inr (omega arith))
    q)
    p

within : (measure : Formula → ℕ) (at : Formula → Formula) (f g : Formula) →
    (measure g < measure f → measure (at g) < measure (at f)) → NotAbove measure f g → NotAbove measure (at f) (at g)
within measure at f g falls p = ⊎_elim (λ e. inl (ap at e)) (λ l. inr (falls l)) p

pub is_size_of : {a c : ℕ} → c ≡ a → IsSize a → IsSize c
is_size_of {a} {c} e s = (omega arith, omega arith)

pub rewrites_left : (m : ℕ) (measure : Formula → ℕ) (f a c : Formula) (k : ℕ) → MeasuresParts measure →
    f ≡ TensorLeft a k → IsShaped f → Rewrites m measure a c → Rewrites m measure f (TensorLeft c k)
rewrites_left m measure f a c k laws e h r =
    let s : IsShaped (TensorLeft a k) = subst IsShaped e h in
    let done : Rewrites m measure (TensorLeft a k) (TensorLeft c k) =
    record {
      shaped = (r.shaped, s.1, is_size_of (ap (λ n. n * k) r.same.size) s.2);
      same = same_left m a c k s.1.0 r.same;
      not_above = within measure (λ u. TensorLeft u k) a c (laws.left_falls a c k) r.not_above;
    }
    in subst (λ (u : Formula). Rewrites m measure u (TensorLeft c k)) (sym e) done

pub rewrites_right : (m : ℕ) (measure : Formula → ℕ) (f a c : Formula) (k : ℕ) → MeasuresParts measure →
    f ≡ TensorRight k a → IsShaped f → Rewrites m measure a c → Rewrites m measure f (TensorRight k c)
rewrites_right m measure f a c k laws e h r =
    let s : IsShaped (TensorRight k a) = subst IsShaped e h in
    let done : Rewrites m measure (TensorRight k a) (TensorRight k c) =
    record {
      shaped = (s.0, r.shaped, is_size_of (ap (λ n. k * n) r.same.size) s.2);
      same = same_right m a c k (shaped_size a s.1) r.same;
      not_above = within measure (λ u. TensorRight k u) a c (laws.right_falls k a c) r.not_above;
    }
    in subst (λ (u : Formula). Rewrites m measure u (TensorRight k c)) (sym e) done

pub rewrites_product : (m : ℕ) (measure : Formula → ℕ) (f a b c d : Formula) → MeasuresParts measure → f ≡ Product a b →
    IsShaped f → Rewrites m measure a c → Rewrites m measure b d → Rewrites m measure f (Product c d)
rewrites_product m measure f a b c d laws e h r q =
    let s : IsShaped (Product a b) = subst IsShaped e h in
    let done : Rewrites m measure (Product a b) (Product c d) =
    record {
      shaped = (r.shaped, q.shaped, r.same.size ∙ s.2 ∙ sym q.same.size);
      same = same_product m a b c d s.1 s.2 r.same q.same;
      not_above =
          then_not_above measure (Product a b) (Product c b) (Product c d)
          (within measure (λ u. Product u b) a c (laws.product_first_falls a b c) r.not_above)
          (within measure (λ u. Product c u) b d (laws.product_second_falls c b d) q.not_above);
    }
    in subst (λ (u : Formula). Rewrites m measure u (Product c d)) (sym e) done

pub rewrites_sum : (m : ℕ) (measure : Formula → ℕ) (f a b c d : Formula) → MeasuresParts measure → f ≡ DirectSum a b →
    IsShaped f → Rewrites m measure a c → Rewrites m measure b d → Rewrites m measure f (DirectSum c d)
rewrites_sum m measure f a b c d laws e h r q =
    let s : IsShaped (DirectSum a b) = subst IsShaped e h in
    let same = same_sum m a b c d r.same q.same in
    let done : Rewrites m measure (DirectSum a b) (DirectSum c d) =
    record {
      shaped = (r.shaped, q.shaped, is_size_of same.size s.2);
      same = same;
      not_above =
          then_not_above measure (DirectSum a b) (DirectSum c b) (DirectSum c d)
          (within measure (λ u. DirectSum u b) a c (laws.sum_first_falls a b c) r.not_above)
          (within measure (λ u. DirectSum c u) b d (laws.sum_second_falls c b d) q.not_above);
    }
    in subst (λ (u : Formula). Rewrites m measure u (DirectSum c d)) (sym e) done
