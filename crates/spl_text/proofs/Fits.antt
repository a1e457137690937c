-- A part that keeps the tests of shapes is not refused.
use Rattle.std.proofs.Common.{◌≡◌, ℕ, suc, ◌/◌, ◌%◌, ◌<◌, ◌≤◌, Bool, true, false, not, ◌&&◌, ◌||◌, cond, eqb, ltb, List}
use Rattle.std.proofs.Common.{[], ◌∷◌, ◌++◌, length, get_or, Some, None, refl, ap, ap₂, arith, ◌∙◌, mul_comm}
use Rattle.std.specs.Int.{is_power_of_two}
use Rattle.std.specs.Option.{option_map}
use Rattle.std.proofs.lemmas.Bool.{eq-eqb, eqb-true, lt-ltb, ltb-true}
use Rattle.tree_model.proofs.Splits.{mod-product}
use Rattle.tree_model.proofs.PowerOfTwo.{is_power_of_power}
use Rattle.spl_ast.specs.Formula.{Formula, Identity, Fourier, Hadamard, Twiddles, Diagonal, Stride, Permutation}
use Rattle.spl_ast.specs.Formula.{GoodThomasIn, GoodThomasOut, Product, TensorLeft, TensorRight, DirectSum, Pending}
use Rattle.spl_ast.specs.Formula.{size_of}
use Rattle.spl_ast.specs.Shape.{IsShaped, IsMultiple, AreGoodThomasFactors, IsPermutation}
use Rattle.spl_ast.proofs.Vectors.{size_is_size}
use Rattle.spl_text.specs.Fault.{is_among, first_stray, are_coprime, refused_if, misfit, or_else, refusal}
use Rattle.spl_text.proofs.Coprime.{shared_from_gcd}
use Rattle.spl_text.proofs.Strays.{is_among-push}

allowed : (b : Bool) (x y : ℕ) → b ≡ true → refused_if (not b) x y ≡ None
allowed b x y e = ap (λ c. refused_if (not c) x y) e

small_enough : (n : ℕ) → n ≤ 1048576 → refused_if (ltb 1048576 n) n 1048576 ≡ None
small_enough n h = by_test (ltb 1048576 n) refl
  where
    by_test : (b : Bool) → ltb 1048576 n ≡ b → refused_if b n 1048576 ≡ None
    by_test true e = let large : 1048576 < n = ltb-true 1048576 n e in absurd (omega arith)
    by_test false e = refl

divides : (n r : ℕ) → IsMultiple n r → eqb (n % r) 0 ≡ true
divides n r h = eq-eqb (n % r) 0 (mod-product n r (n / r) (mul_comm r (n / r) ∙ h))

coprime : (r s : ℕ) → AreGoodThomasFactors r s → are_coprime r s ≡ true
coprime r s h = ap₂ (λ a b. a && b) (lt-ltb 1 r h.first) (ap₂ (λ a b. a && not b) (lt-ltb 1 s h.second) (shared_from_gcd r s h.coprime))

different : (k v : ℕ) → (k ≡ v → ⊥) → eqb k v ≡ false
different k v h = by_test (eqb k v) refl
  where
    by_test : (b : Bool) → eqb k v ≡ b → eqb k v ≡ false
    by_test true e = absurd (h (eqb-true k v e))
    by_test false e = e

no_stray : (n : ℕ) (before ks : List ℕ) → ((i : ℕ) → i < length ks → get_or ks i 0 < n) →
    ((i : ℕ) → i < length ks → is_among (get_or ks i 0) before ≡ false)
    → ((i j : ℕ) → i < j → j < length ks → get_or ks i 0 ≡ get_or ks j 0 → ⊥) → first_stray n before ks ≡ None
unfolding first_stray
no_stray n before [] below new once = refl
no_stray n before (k ∷ ks) below new once =
    let test : (ltb k n && not (is_among k before)) ≡ true = ap₂ (λ a b. a && not b) (lt-ltb k n (below 0 (omega arith))) (new 0 (omega arith)) in
    ap (λ b. cond b (first_stray n (before ++ k ∷ []) ks) (Some k)) test
    ∙ no_stray n (before ++ k ∷ []) ks (λ i h. below (suc i) (omega arith))
    (λ i h. is_among-push (get_or ks i 0) k before ∙ ap₂ (λ a b. a || b) (new (suc i) (omega arith)) (different k (get_or ks i 0) (once 0 (suc i) (omega arith) (omega arith))))
    (λ i j lt h. once (suc i) (suc j) (omega arith) (omega arith))

once_each : (k : List ℕ) → IsPermutation k → (i j : ℕ) → i < j → j < length k → get_or k i 0 ≡ get_or k j 0 → ⊥
once_each k p i j lt h same = let equal : i ≡ j = p.once i j (omega arith) h same in omega arith

permutation_has_none : (k : List ℕ) → IsPermutation k → first_stray (length k) [] k ≡ None
permutation_has_none k p = no_stray (length k) [] k p.below (λ i h. refl) (once_each k p)

no_misfit : (f : Formula) → IsShaped f → misfit f ≡ None
no_misfit (Identity n) s = refl
no_misfit (Fourier n w) s = refl
no_misfit (Hadamard n) s = allowed (is_power_of_two n) n 2 (is_power_of_power n s.1.0 s.1.1)
no_misfit (Twiddles n r w) s = allowed (eqb (n % r) 0) n r (divides n r s.2)
no_misfit (Diagonal c) s = refl
no_misfit (Stride n r) s = allowed (eqb (n % r) 0) n r (divides n r s.2)
no_misfit (Permutation k) s = ap (option_map (λ stray. (length k, stray))) (permutation_has_none k s.1)
no_misfit (GoodThomasIn r t) s = allowed (are_coprime r t) r t (coprime r t s.1)
no_misfit (GoodThomasOut r t) s = allowed (are_coprime r t) r t (coprime r t s.1)
no_misfit (Product a b) s = allowed (eqb (size_of a) (size_of b)) (size_of a) (size_of b) (eq-eqb (size_of a) (size_of b) s.2)
no_misfit (TensorLeft a k) s = refl
no_misfit (TensorRight k a) s = refl
no_misfit (DirectSum a b) s = refl
no_misfit (Pending a) s = refl

pub not_refused : (f : Formula) → IsShaped f → refusal f ≡ None
not_refused f s =
    ap (λ o. or_else o (refused_if (ltb 1048576 (size_of f)) (size_of f) 1048576)) (no_misfit f s) ∙ small_enough (size_of f) (size_is_size f s).1
