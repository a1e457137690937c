-- Formulas with the same summands are alike.
use Rattle.std.proofs.Common.{◌≡◌, ℕ, ◌+◌, ◌*◌, ◌++◌, take, drop, ◌∙◌, refl, sym, subst, arith, ap, ap₂, append_assoc}
use Rattle.std.proofs.Common.{add_assoc}
use Rattle.std.proofs.lemmas.List.{drop-take, drop-drop, take-take}
use Rattle.spl_ast.specs.Formula.{Formula, DirectSum, size_of, parts_of}
use Rattle.spl_ast.specs.Meaning.{apply, IsVector, IsSameMatrix}
use Rattle.spl_ast.specs.Shape.{IsShaped}
use Rattle.spl_ast.proofs.Contexts.{same_left, same_right, same_product, same_sum, same_refl, same_trans, is_size_of}
use Rattle.spl_ast.proofs.Vectors.{shaped_size}
use Rattle.spl_ast.specs.Halves.Summands.{summands, sum_of}
use Rattle.spl_ast.proofs.HalvesLemmas.Grouping.{KnowsSums, from_right}

-- ---- numbers

rows-know : KnowsSums (λ f g. size_of g ≡ size_of f)
rows-know = record {
  same = λ f. refl;
  chain = λ f g h r q. q ∙ r;
  grouped = λ a b c. sym (add_assoc (size_of a) (size_of b) (size_of c));
  sum = λ a b c d r q. ap₂ (λ n k. n + k) r q;
  product = λ a b c d r q. r;
  left = λ a c k r. ap (λ n. n * k) r;
  right = λ k a c r. ap (λ n. k * n) r;
  pending = λ a c r. r;
}

parts-know : KnowsSums (λ f g. parts_of g ≡ parts_of f)
parts-know = record {
  same = λ f. refl;
  chain = λ f g h r q. q ∙ r;
  grouped = λ a b c. omega arith;
  sum = λ a b c d r q. ap₂ (λ n k. n + k + 1) r q;
  product = λ a b c d r q. ap₂ (λ n k. n + k + 1) r q;
  left = λ a c k r. ap (λ n. n + 1) r;
  right = λ k a c r. ap (λ n. n + 1) r;
  pending = λ a c r. ap (λ n. n + 1) r;
}

-- a number that a formula has in common with its summands grouped from the right is the same of formulas with the same summands
pub alike : (number : Formula → ℕ) → KnowsSums (λ f g. number g ≡ number f) → (f g : Formula) →
    summands g ≡ summands f → number g ≡ number f
alike number laws f g same =
    sym (from_right _ laws g) ∙ ap (λ fs. number (sum_of fs)) same ∙ from_right _ laws f

pub rows_alike : (f g : Formula) → summands g ≡ summands f → size_of g ≡ size_of f
rows_alike = alike size_of rows-know

pub parts_alike : (f g : Formula) → summands g ≡ summands f → parts_of g ≡ parts_of f
parts_alike = alike parts_of parts-know

-- ---- matrices

-- direct sums may be grouped either way
same_grouping : (m : ℕ) (a b c : Formula) → IsSameMatrix m (DirectSum (DirectSum a b) c) (DirectSum a (DirectSum b c))
same_grouping m a b c = record {
  size = sym (add_assoc (size_of a) (size_of b) (size_of c));
  meaning = λ x v.
      let n = size_of a in
      let k = size_of b in
      let first = ap (apply m a) (sym (take-take n (n + k) x (omega arith))) in
      let second = ap (apply m b) (sym (drop-take n k x)) in
      let third = ap (apply m c) (drop-drop k n x) in
      ap₂ (λ p q. p ++ q) first (ap₂ (λ p q. p ++ q) second third)
      ∙ sym (append_assoc (apply m a (take n (take (n + k) x))) (apply m b (drop n (take (n + k) x))) (apply m c (drop (n + k) x)));
}

-- a formula that fits together, and one that does too and is the same matrix
abbrev BothFit : ℕ → Formula → Formula → Type 0
BothFit m f g = IsShaped f → IsShaped g × IsSameMatrix m f g

matrices-know : (m : ℕ) → KnowsSums (BothFit m)
matrices-know m = record {
  same = λ f s. (s, same_refl m f);
  chain = λ f g h r q s. let first = r s in let second = q first.0 in (second.0, same_trans m f g h first.1 second.1);
  grouped = λ a b c s.
      let some = shaped_size b s.0.1 in
      ((s.0.0, (s.0.1, s.1, (omega arith, omega (arith, s.2))), (omega (arith, s.2), omega (arith, s.2))), same_grouping m a b c);
  sum = λ a b c d r q s.
      let first = r s.0 in
      let second = q s.1 in
      let both = same_sum m a b c d first.1 second.1 in
      ((first.0, second.0, is_size_of both.size s.2), both);
  product = λ a b c d r q s.
      let first = r s.0 in
      let second = q s.1 in
      ((first.0, second.0, first.1.size ∙ s.2 ∙ sym second.1.size), same_product m a b c d s.1 s.2 first.1 second.1);
  left = λ a c k r s.
      let part = r s.0 in
      let whole = same_left m a c k s.1.0 part.1 in
      ((part.0, s.1, is_size_of whole.size s.2), whole);
  right = λ k a c r s.
      let part = r s.1 in
      let whole = same_right m a c k (shaped_size a s.1) part.1 in
      ((s.0, part.0, is_size_of whole.size s.2), whole);
  pending = λ a c r s. let part = r s in (part.0, record { size = part.1.size; meaning = part.1.meaning });
}

same-sym : (m : ℕ) (f g : Formula) → IsSameMatrix m f g → IsSameMatrix m g f
same-sym m f g s = record {
  size = sym s.size;
  meaning = λ x v. sym (s.meaning x (subst (λ (n : ℕ). IsVector m n x) s.size v));
}

pub same_matrix : (m : ℕ) (f g : Formula) → IsShaped f → IsShaped g → summands g ≡ summands f → IsSameMatrix m f g
same_matrix m f g first second same =
    let mine : IsSameMatrix m f (sum_of (summands f)) = (from_right (BothFit m) (matrices-know m) f first).1 in
    let other : IsSameMatrix m g (sum_of (summands f)) = subst (λ fs. IsSameMatrix m g (sum_of fs)) same (from_right (BothFit m) (matrices-know m) g second).1 in
    same_trans m f (sum_of (summands f)) g mine (same-sym m g (sum_of (summands f)) other)
