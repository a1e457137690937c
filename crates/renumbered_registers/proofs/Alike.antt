-- Registers that are alike: where register r has the number n, register n of the one holds what register r of the other
-- holds. They stay so where an operation and the numbered one put the same words.
use Rattle.std.proofs.Common.{◌≡◌, ◌⊎◌, ℕ, zero, suc, ◌+◌, ◌-◌, ◌*◌, ◌<◌, ◌≤◌, List, ◌∷◌, Some, inl, inr, length, refl}
use Rattle.std.proofs.Common.{sym, ap, ap₂, ◌∙◌, arith, mul-le-mul_right}
use Rattle.std.specs.Prelude.{slice_index}
use Rattle.std.proofs.lemmas.Bool.{cases_lt}
use Rattle.icode.specs.Machine.{register_of, transposed, with_words, words_at}
use Rattle.icode.proofs.Words.{slice_index-agree, with_words-other}
use Rattle.icode.proofs.SequenceLemmas.Placing.{length-with_words, with_words_there}
use Rattle.nests.proofs.Swaps.{loops_same, map-alike}
use Rattle.renumbered_registers.specs.Renumbered.{Numbering, put_all}
use Rattle.renumbered_registers.proofs.Given.{AreGiven, numbers-other, numbers-there, some-is}

-- a word that is not written
elsewhere : (vs xs : List ℕ) (i k : ℕ) → (k < i) ⊎ (i + length vs ≤ k) →
    slice_index (with_words xs i vs) k ≡ slice_index xs k
elsewhere vs xs i k outside =
    slice_index-agree (with_words xs i vs) xs k
    (with_words-other vs xs i k (λ low high.
    elim outside [
      | inl before ↦ omega (arith, before, low)
      | inr behind ↦ omega (arith, behind, high)
    ]))

words_same : (count : ℕ) (xs ys : List ℕ) (i j : ℕ) →
    ((l : ℕ) → l < count → slice_index xs (i + l) ≡ slice_index ys (j + l)) → words_at count xs i ≡ words_at count ys j
words_same zero xs ys i j h = refl
words_same (suc count) xs ys i j h =
    let here : i + 0 ≡ i = omega arith in
    let there : j + 0 ≡ j = omega arith in
    ap₂ (λ (v : ℕ) (vs : List ℕ). v ∷ vs)
    (sym (ap (slice_index xs) here) ∙ h 0 (omega arith) ∙ ap (slice_index ys) there)
    (words_same count xs ys (i + 1) (j + 1) (λ l lt.
    let a : i + 1 + l ≡ i + (l + 1) = omega arith in
    let b : j + 1 + l ≡ j + (l + 1) = omega arith in
    ap (slice_index xs) a ∙ h (l + 1) (omega (arith, lt)) ∙ sym (ap (slice_index ys) b)))

-- a word of an earlier register, and of a later one
before-words : (lanes k r l : ℕ) → k < r → l < lanes → k * lanes + l < r * lanes
before-words lanes k r l lt low =
    let next : (k + 1) * lanes ≤ r * lanes = mul-le-mul_right lanes (omega (arith, lt)) in
    let words : (k + 1) * lanes ≡ k * lanes + lanes = omega arith in
    omega (arith, next, words, low)

behind-words : (lanes k r count : ℕ) → r + count ≤ k → r * lanes + count * lanes ≤ k * lanes
behind-words lanes k r count le =
    let all : (r + count) * lanes ≤ k * lanes = mul-le-mul_right lanes le in
    let words : (r + count) * lanes ≡ r * lanes + count * lanes = omega arith in
    omega (arith, all, words)

-- the words of `few` registers are s, and t are those of `many`
pub record AreAlike (lanes few many : ℕ) (z : Numbering) (s t : List ℕ) : Type 0 where
  pub held : (r n l : ℕ) → z.numbers r ≡ Some n → l < lanes →
      slice_index t (n * lanes + l) ≡ slice_index s (r * lanes + l)
  pub old : few * lanes ≤ length s
  pub new : many * lanes ≤ length t

module _ (lanes few many : ℕ) (z : Numbering) (s t : List ℕ) (alike : AreAlike lanes few many z s t) where
  pub register-alike : (r n : ℕ) → z.numbers r ≡ Some n → register_of lanes t n ≡ register_of lanes s r
  register-alike r n is = words_same lanes t s (n * lanes) (r * lanes) (λ l lt. alike.held r n l is lt)

  pub tile-alike : (x y : ℕ) → ((l : ℕ) → l < lanes → z.numbers (x + l) ≡ Some (y + l)) →
      transposed lanes t y ≡ transposed lanes s x
  tile-alike x y numbers =
      loops_same _ _ 0 lanes (λ k k_from k_below. map-alike _ _ lanes 0 (λ l l_below.
      alike.held (x + l) (y + l) k (numbers l (omega (arith, l_below))) (omega (arith, k_below))))

  -- the same words put into registers from r on, and from the next number on
  module _ (given : AreGiven z) (count r : ℕ) (vs : List ℕ) (wide : length vs ≡ count * lanes) (low : r + count ≤ few)
      (room : z.next + count ≤ many) where
    abbrev old_put : List ℕ
    old_put = with_words s (r * lanes) vs

    abbrev new_put : List ℕ
    new_put = with_words t (z.next * lanes) vs

    held-other : (k n l : ℕ) → (k < r) ⊎ (r + count ≤ k) → z.numbers k ≡ Some n → l < lanes →
        slice_index new_put (n * lanes + l) ≡ slice_index old_put (k * lanes + l)
    held-other k n l outside is lane =
        elsewhere vs t (z.next * lanes) (n * lanes + l) (inl (before-words lanes n z.next l (given k n is) lane))
        ∙ alike.held k n l is lane
        ∙ sym (elsewhere vs s (r * lanes) (k * lanes + l)
        (elim outside [
          | inl before ↦ inl (before-words lanes k r l before lane)
          | inr behind ↦ inr (let le = behind-words lanes k r count behind in omega (arith, le, wide))
        ]))

    held-there : (d l : ℕ) → d < count → l < lanes →
        slice_index new_put ((z.next + d) * lanes + l) ≡ slice_index old_put ((r + d) * lanes + l)
    held-there d l lt lane =
        let inside : d * lanes + l < length vs =
        let lower = before-words lanes d count l lt lane in omega (arith, lower, wide) in
        let a : (z.next + d) * lanes + l ≡ z.next * lanes + (d * lanes + l) = omega arith in
        let b : (r + d) * lanes + l ≡ r * lanes + (d * lanes + l) = omega arith in
        let from = behind-words lanes many z.next count room in
        let to = behind-words lanes few r count low in
        let new = alike.new in
        let old = alike.old in
        ap (slice_index new_put) a
        ∙ with_words_there vs t (z.next * lanes) (d * lanes + l) inside (omega (arith, wide, from, new))
        ∙ sym (with_words_there vs s (r * lanes) (d * lanes + l) inside (omega (arith, wide, to, old)))
        ∙ sym (ap (slice_index old_put) b)

    held-put : (k n l : ℕ) → (put_all count r z).numbers k ≡ Some n → l < lanes →
        slice_index new_put (n * lanes + l) ≡ slice_index old_put (k * lanes + l)
    held-put k n l is lane =
        elim (cases_lt k r) [
          | inl before ↦
              held-other k n l (inl before) (sym (numbers-other count r k z (inl before)) ∙ is) lane
          | inr from ↦
              elim (cases_lt k (r + count)) [
                | inl inside ↦
                    let d : ℕ = k - r in
                    let there : k ≡ r + d = omega (arith, from) in
                    let lt : d < count = omega (arith, from, inside) in
                    let number : n ≡ z.next + d =
                    sym (some-is (z.next + d) n
                    (sym (numbers-there count r d z lt) ∙ sym (ap (put_all count r z).numbers there) ∙ is)) in
                    ap (λ i. slice_index new_put (i * lanes + l)) number
                    ∙ held-there d l lt lane
                    ∙ sym (ap (λ i. slice_index old_put (i * lanes + l)) there)
                | inr behind ↦
                    held-other k n l (inr behind) (sym (numbers-other count r k z (inr behind)) ∙ is) lane
              ]
        ]

    pub put-alike : AreAlike lanes few many (put_all count r z) old_put new_put
    put-alike =
        record {
          held = held-put;
          old = let size = length-with_words vs s (r * lanes) in let le = alike.old in omega (arith, size, le);
          new = let size = length-with_words vs t (z.next * lanes) in let le = alike.new in omega (arith, size, le);
        }
