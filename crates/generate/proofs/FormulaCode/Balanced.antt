-- A formula with its direct sums in halves has the same summands, and is shaped.
use Rattle.std.proofs.Common.{◌≡◌, ℕ, zero, suc, ◌+◌, ◌*◌, ◌/◌, ◌<◌, ◌≤◌, nat_le, if◌then◌else◌, List, [], ◌∷◌, ◌++◌}
use Rattle.std.proofs.Common.{flat_map, take, drop, length, length-append, append-nil, refl, sym, ap, ap₂, ◌∙◌, arith}
use Rattle.std.proofs.Common.{subst, inl, inr, add_assoc, length-take-le, take-append-drop}
use Rattle.std.proofs.lemmas.Bool.{cases_Bool}
use Rattle.std.proofs.lemmas.Bool.Decides.{nat_tests}
use Rattle.std.proofs.lemmas.Grind.{flat_map-append}
use Rattle.spl_ast.specs.Halves.Balanced.{halved, balanced, balanced_summands}
use Rattle.spl_ast.specs.Halves.Summands.{summands, sum_of}
use Rattle.spl_ast.proofs.HalvesLemmas.Grouping.{KnowsSums, from_right}
use Rattle.spl_ast.specs.Formula.{Formula, Identity, Product, TensorLeft, TensorRight, DirectSum, Pending, size_of}
use Rattle.spl_ast.specs.Shape.{IsShaped}
use Rattle.spl_ast.proofs.Vectors.{shaped_size}
use Rattle.spl_ast.proofs.Contexts.{is_size_of}

-- ---- summands

-- the summands of a direct sum are those of its parts
summands-sum : (fs : List Formula) → 0 < length fs → summands (sum_of fs) ≡ flat_map summands fs
summands-sum [] some = absurd (omega (arith, some))
summands-sum (f ∷ []) some = sym (append-nil (summands f))
summands-sum (f ∷ g ∷ gs) some = ap (λ rest. summands f ++ rest) (summands-sum (g ∷ gs) (omega arith))

length-halves : (fs : List Formula) (n : ℕ) → length (take n fs) + length (drop n fs) ≡ length fs
length-halves fs n = sym (length-append (take n fs) (drop n fs)) ∙ ap length (take-append-drop n fs)

summands-halved : (depth : ℕ) (fs : List Formula) → 0 < length fs → summands (halved depth fs) ≡ flat_map summands fs
summands-halved zero fs some = summands-sum fs some
summands-halved (suc depth) fs some = elim (cases_Bool (nat_le (length fs) 1)) [
  | inl few ↦
      ap (λ b. summands (if b then sum_of fs else DirectSum (halved depth (take (length fs / 2) fs))
      (halved depth (drop (length fs / 2) fs)))) few
      ∙ summands-sum fs some
  | inr many ↦
      let two : 2 ≤ length fs = grind (arith, nat_tests) in
      let half : (length fs / 2) + (length fs / 2) ≤ length fs = omega arith in
      let least : 1 ≤ length fs / 2 = omega (arith, two) in
      let front = length-take-le (length fs / 2) fs (omega (arith, half)) in
      let both = length-halves fs (length fs / 2) in
      ap (λ b. summands (if b then sum_of fs else DirectSum (halved depth (take (length fs / 2) fs))
      (halved depth (drop (length fs / 2) fs)))) many
      ∙ ap₂ (λ xs ys. xs ++ ys) (summands-halved depth (take (length fs / 2) fs) (omega (arith, front, least)))
      (summands-halved depth (drop (length fs / 2) fs) (omega (arith, front, both, half, least)))
      ∙ sym (flat_map-append summands (take (length fs / 2) fs) (drop (length fs / 2) fs))
      ∙ ap (flat_map summands) (take-append-drop (length fs / 2) fs)
]

some-summands : (f : Formula) → 0 < length (balanced_summands f)
some-summands (Identity n) = omega arith
some-summands (DirectSum a b) =
    let all = length-append (balanced_summands a) (balanced_summands b) in
    let some = some-summands a in
    omega (arith, all, some)
some-summands _ = omega arith

-- from what is in halves to the formula
whole : (f : Formula) → flat_map summands (balanced_summands f) ≡ summands f → summands (balanced f) ≡ summands f
whole f same = summands-halved (length (balanced_summands f)) (balanced_summands f) (some-summands f) ∙ same

same-summands : (f : Formula) → flat_map summands (balanced_summands f) ≡ summands f
same-summands (Product a b) =
    ap₂ (λ fs gs. Product (sum_of fs) (sum_of gs) ∷ []) (whole a (same-summands a)) (whole b (same-summands b))
same-summands (TensorLeft a k) = ap (λ fs. TensorLeft (sum_of fs) k ∷ []) (whole a (same-summands a))
same-summands (TensorRight k a) = ap (λ fs. TensorRight k (sum_of fs) ∷ []) (whole a (same-summands a))
same-summands (Pending a) = ap (λ fs. Pending (sum_of fs) ∷ []) (whole a (same-summands a))
same-summands (DirectSum a b) = flat_map-append summands (balanced_summands a) (balanced_summands b)
    ∙ ap₂ (λ fs gs. fs ++ gs) (same-summands a) (same-summands b)
same-summands _ = refl

pub balanced_alike : (f : Formula) → summands (balanced f) ≡ summands f
balanced_alike f = whole f (same-summands f)

-- ---- shapes

-- both fit together or neither does, and they are of one size
record AreAlike (f g : Formula) : Type 0 where
  size : size_of g ≡ size_of f
  there : IsShaped f → IsShaped g
  back : IsShaped g → IsShaped f

shapes-know : KnowsSums AreAlike
shapes-know = record {
  same = λ f. record { size = refl; there = λ s. s; back = λ s. s };
  chain = λ f g h r q. record
      { size = q.size ∙ r.size; there = λ s. q.there (r.there s); back = λ s. r.back (q.back s) };
  grouped = λ a b c. record {
    size = sym (add_assoc (size_of a) (size_of b) (size_of c));
    there = λ s. let some = shaped_size b s.0.1 in
        (s.0.0, (s.0.1, s.1, (omega arith, omega (arith, s.2))), (omega (arith, s.2), omega (arith, s.2)));
    back = λ s. let some = shaped_size b s.1.0 in
        ((s.0, s.1.0, (omega arith, omega (arith, s.2))), s.1.1, (omega (arith, s.2), omega (arith, s.2)));
  };
  sum = λ a b c d r q.
      let size : size_of c + size_of d ≡ size_of a + size_of b = ap₂ (λ n k. n + k) r.size q.size in
      record {
        size = size;
        there = λ s. (r.there s.0, q.there s.1, is_size_of size s.2);
        back = λ s. (r.back s.0, q.back s.1, is_size_of (sym size) s.2);
      };
  product = λ a b c d r q. record {
    size = r.size;
    there = λ s. (r.there s.0, q.there s.1, r.size ∙ s.2 ∙ sym q.size);
    back = λ s. (r.back s.0, q.back s.1, sym r.size ∙ s.2 ∙ q.size);
  };
  left = λ a c k r.
      let size : size_of c * k ≡ size_of a * k = ap (λ n. n * k) r.size in
      record {
        size = size;
        there = λ s. (r.there s.0, s.1, is_size_of size s.2);
        back = λ s. (r.back s.0, s.1, is_size_of (sym size) s.2);
      };
  right = λ k a c r.
      let size : k * size_of c ≡ k * size_of a = ap (λ n. k * n) r.size in
      record {
        size = size;
        there = λ s. (s.0, r.there s.1, is_size_of size s.2);
        back = λ s. (s.0, r.back s.1, is_size_of (sym size) s.2);
      };
  pending = λ a c r. record { size = r.size; there = r.there; back = r.back };
}

pub balanced_shaped : (f : Formula) → IsShaped f → IsShaped (balanced f)
balanced_shaped f shaped =
    (from_right AreAlike shapes-know (balanced f)).back
    (subst (λ fs. IsShaped (sum_of fs)) (sym (balanced_alike f)) ((from_right AreAlike shapes-know f).there shaped))
