-- The inverse of the places before a Good-Thomas step.
use Rattle.std.proofs.Common.{◌≡◌, ◌≢◌, ℕ, zero, suc, ◌+◌, ◌*◌, ◌/◌, ◌%◌, ◌<◌, ◌≤◌, ◌^◌, ◌-◌, Some, inl, inr, sym, ap}
use Rattle.std.proofs.Common.{ap₂, ◌∙◌, subst, arith}
use Rattle.std.proofs.Math.Nat.{add-mod, mod-mod, mod-mod_of_dvd, dvd-mul_right, dvd-mul_left, mod-eq_of_lt}
use Rattle.std.proofs.lemmas.Bool.{cases_eq}
use Rattle.std.proofs.lemmas.Bool.Decides.{nat_tests}
use Rattle.std.proofs.lemmas.Nat.{mod_below, div_below, mul-mod_second, mul-add-lt, mod-mul-add, div-add-mod', mul-le}
use Rattle.operators.specs.Operator.{stride}
use Rattle.index_fn.specs.Back.{back_of, inverse_below, multiple_below}
use Rattle.index_fn.specs.Inverse.{Permutes, Undoes}
use Rattle.index_fn.specs.Mapping.{ThomasIn, ThomasOut, at}
use Rattle.index_fn.proofs.Onto.{onto}

-- a number that times each of two leaves 1 by the other
pub record IsInverse (r s b : ℕ) : Type 0 where
  pub first : (s * b) % r ≡ 1 % r
  pub second : (r * b) % s ≡ 1 % s

-- ---- the search for one

inverse_found : (r s bound k : ℕ) → k < bound → IsInverse r s k → IsInverse r s (inverse_below r s bound)
inverse_found r s zero k below h = absurd (omega arith)
inverse_found r s (suc b) k below h =
    elim (cases_eq ((s * b) % r) (1 % r)) [
      | inl one ↦
          elim (cases_eq ((r * b) % s) (1 % s)) [
            | inl other ↦
                let is : inverse_below r s (suc b) ≡ b = grind (arith, nat_tests) in
                rw is (record { first = one; second = other })
            | inr differ ↦
                let is : inverse_below r s (suc b) ≡ inverse_below r s b = grind (arith, nat_tests) in
                let apart : k ≢ b = λ same. differ (ap (λ j. (r * j) % s) (sym same) ∙ h.second) in
                rw is (inverse_found r s b k (omega arith) h)
          ]
      | inr differ ↦
          let is : inverse_below r s (suc b) ≡ inverse_below r s b = grind (arith, nat_tests) in
          let apart : k ≢ b = λ same. differ (ap (λ j. (s * j) % r) (sym same) ∙ h.first) in
          rw is (inverse_found r s b k (omega arith) h)
    ]

inverse_within : (r s bound : ℕ) → inverse_below r s bound ≤ bound
inverse_within r s zero = omega arith
inverse_within r s (suc b) =
    elim (cases_eq ((s * b) % r) (1 % r)) [
      | inl one ↦
          elim (cases_eq ((r * b) % s) (1 % s)) [
            | inl other ↦
                let is : inverse_below r s (suc b) ≡ b = grind (arith, nat_tests) in omega (arith, is)
            | inr differ ↦
                let is : inverse_below r s (suc b) ≡ inverse_below r s b = grind (arith, nat_tests) in
                omega (arith, is, inverse_within r s b)
          ]
      | inr differ ↦
          let is : inverse_below r s (suc b) ≡ inverse_below r s b = grind (arith, nat_tests) in
          omega (arith, is, inverse_within r s b)
    ]

whole_none : (a r : ℕ) → 0 < r → (a * r) % r ≡ 0
whole_none a r positive = ap (λ z. z % r) (omega arith) ∙ mod-mul-add a r 0 positive

-- one of each makes one of both
both_inverse : (r s u v : ℕ) → 0 < r → 0 < s → (s * u) % r ≡ 1 % r → (r * v) % s ≡ 1 % s
    → IsInverse r s ((u * (s * u) + v * (r * v)) % (r * s))
both_inverse r s u v pr ps by_r by_s =
    let w = u * (s * u) + v * (r * v) in
    record {
      first = sym (mul-mod_second s (w % (r * s)) r) ∙ ap (λ z. (s * z) % r) (mod-mod_of_dvd r w (dvd-mul_right r s))
          ∙ mul-mod_second s w r ∙ one r s u v pr by_r;
      second = sym (mul-mod_second r (w % (r * s)) s) ∙ ap (λ z. (r * z) % s) (mod-mod_of_dvd s w (dvd-mul_left s r))
          ∙ mul-mod_second r w s ∙ ap (λ z. (r * z) % s) (omega arith) ∙ one s r v u ps by_s;
    }
  where
    one : (r s u v : ℕ) → 0 < r → (s * u) % r ≡ 1 % r → (s * (u * (s * u) + v * (r * v))) % r ≡ 1 % r
    one r s u v positive e =
        let split : s * (u * (s * u) + v * (r * v)) ≡ (s * u) * (s * u) + (s * (v * v)) * r = omega arith in
        ap (λ z. z % r) split
        ∙ add-mod ((s * u) * (s * u)) ((s * (v * v)) * r) r
        ∙ ap (λ z. (((s * u) * (s * u)) % r + z) % r) (whole_none (s * (v * v)) r positive)
        ∙ ap (λ z. z % r) (omega arith)
        ∙ mod-mod ((s * u) * (s * u)) r
        ∙ sym (mul-mod_second (s * u) (s * u) r)
        ∙ ap (λ z. ((s * u) * z) % r) e
        ∙ mul-mod_second (s * u) 1 r
        ∙ ap (λ z. z % r) (omega arith)
        ∙ e

pub inverse_is : (r s u v : ℕ) → 0 < r → 0 < s → 0 < r * s → (s * u) % r ≡ 1 % r → (r * v) % s ≡ 1 % s
    → IsInverse r s (inverse_below r s (r * s))
inverse_is r s u v pr ps some by_r by_s =
    inverse_found r s (r * s) ((u * (s * u) + v * (r * v)) % (r * s)) (mod_below _ (r * s) some)
    (both_inverse r s u v pr ps by_r by_s)

-- ---- the places

-- what leaves 1 keeps a remainder
keeps : (r a e : ℕ) → a < r → e % r ≡ 1 % r → (a * e) % r ≡ a
keeps r a e h one = sym (mul-mod_second a e r) ∙ ap (λ n. (a * n) % r) one ∙ mul-mod_second a 1 r
    ∙ ap (λ n. n % r) (omega arith) ∙ mod-eq_of_lt h

-- the place that the step takes an item from leads back to the item
in_undone : (r s u i : ℕ) → 0 < r → 0 < s → IsInverse r s u → i < r * s
    → at (ThomasOut r s) ((u * at (ThomasIn r s) i) % (r * s)) ≡ i
in_undone r s u i pr ps h below =
    let a = i / s in
    let b = i % s in
    let p = s * a + r * b in
    let row : a < r = div_below i s r ps below in
    let column : b < s = mod_below i s ps in
    let by_r : ((u * (p % (r * s))) % (r * s)) % r ≡ a = mod-mod_of_dvd r (u * (p % (r * s))) (dvd-mul_right r s)
    ∙ sym (mul-mod_second u (p % (r * s)) r) ∙ ap (λ z. (u * z) % r) (mod-mod_of_dvd r p (dvd-mul_right r s))
    ∙ mul-mod_second u p r ∙ kept r s u a b row h.first in
    let by_s : ((u * (p % (r * s))) % (r * s)) % s ≡ b = mod-mod_of_dvd s (u * (p % (r * s))) (dvd-mul_left s r)
    ∙ sym (mul-mod_second u (p % (r * s)) s) ∙ ap (λ z. (u * z) % s) (mod-mod_of_dvd s p (dvd-mul_left s r))
    ∙ mul-mod_second u p s ∙ ap (λ z. (u * z) % s) (omega arith) ∙ kept s r u b a column h.second in
    ap₂ (λ x y. x * s + y) by_r by_s ∙ div-add-mod' i s
  where
    kept : (r s u a b : ℕ) → a < r → (s * u) % r ≡ 1 % r → (u * (s * a + r * b)) % r ≡ a
    kept r s u a b row e =
        let split : u * (s * a + r * b) ≡ a * (s * u) + (u * b) * r = omega arith in
        ap (λ z. z % r) split
        ∙ add-mod (a * (s * u)) ((u * b) * r) r
        ∙ ap (λ z. ((a * (s * u)) % r + z) % r) (whole_none (u * b) r (omega (arith, row)))
        ∙ ap (λ z. z % r) (omega arith)
        ∙ mod-mod (a * (s * u)) r
        ∙ keeps r a (s * u) row e

-- L(n, 1) is the identity
one_turn : (n i : ℕ) → i < n → stride 1 n i ≡ i
one_turn n i below = div-rest
  where
    rest : i % n ≡ i
    rest = mod-eq_of_lt below

    none : i / n < 1
    none = div_below i n 1 (omega (arith, below)) (omega (arith, below))

    div-rest : (i % n) * 1 + i / n ≡ i
    div-rest = omega (arith, rest, none)

multiple_is : (n u i : ℕ) → i < n → at (multiple_below n u) i ≡ (u * i) % n
multiple_is n u i below =
    let same : 0 + u * stride 1 n i ≡ u * i = omega arith ∙ ap (λ k. u * k) (one_turn n i below) in
    let lead : 0 * 0 + (0 + u * stride 1 n i) % n ≡ (0 + u * stride 1 n i) % n = omega arith in
    lead ∙ ap (λ z. z % n) same

module _ (r s : ℕ) (r1 : 1 ≤ r) (s1 : 1 ≤ s) (small : r * s < 2 ^ 32) (some : 0 < r * s) where
  abbrev n : ℕ
  n = r * s

  abbrev u : ℕ
  u = inverse_below r s n

  abbrev there : ℕ → ℕ
  there = at (ThomasIn r s)

  abbrev back : ℕ → ℕ
  back = at (back_of (ThomasIn r s))

  there_below : (i : ℕ) → there i < n
  there_below i = mod_below _ n some

  out_below : (k : ℕ) → at (ThomasOut r s) k < n
  out_below k =
      let turned : s * r ≡ r * s = omega arith in
      subst (λ (v : ℕ). (k % r) * s + k % s < v) turned
      (mul-add-lt (k % r) s (k % s) r (mod_below k r r1) (mod_below k s s1))

  defined : (i : ℕ) → i < n → u * stride 1 n i < 2 ^ 64
  defined i below =
      let most : u * i ≤ 2 ^ 32 * (2 ^ 32 - 1) =
      mul-le u i (2 ^ 32) (2 ^ 32 - 1) (omega (arith, inverse_within r s n, small)) (omega (arith, below, small)) in
      rw (one_turn n i below) (omega (arith, most))

  pub in_undoes : IsInverse r s u → Undoes (ThomasIn r s) (back_of (ThomasIn r s)) n
  in_undoes inverse =
      record {
        well_formed = (
          (r1, s1, omega (arith, small)),
          ((some, tt, tt), (tt, (omega arith, some, omega (arith, small)))),
        );
        size_is = ap Some (omega arith);
        permutes = record {
          fits = omega (arith, small);
          defined = λ i below. (
            ((omega (arith, below), omega (arith, defined i below)), (tt, tt, omega (arith, rest i))),
            omega (arith, rest i),
          );
          below = λ i below. out_below _;
          once = λ i j x y e. sym (undone i x) ∙ ap there e ∙ undone j y;
        };
        undoes = undoes;
        undone = undone;
      }
    where
      rest : (i : ℕ) → (0 + u * stride 1 n i) % n < n
      rest i = mod_below _ n some

      undoes : (i : ℕ) → i < n → back (there i) ≡ i
      undoes i below = ap (at (ThomasOut r s)) (multiple_is n u (there i) (there_below i))
          ∙ in_undone r s u i r1 s1 inverse below

      once : (i j : ℕ) → i < n → j < n → there i ≡ there j → i ≡ j
      once i j x y e = sym (undoes i x) ∙ ap back e ∙ undoes j y

      undone : (k : ℕ) → k < n → there (back k) ≡ k
      undone k below =
          let p = onto n there (λ i h. there_below i) once k below in
          ap (λ z. there (back z)) (sym p.2) ∙ ap there (undoes p.0 p.1) ∙ p.2

  -- where the places before a step are a permutation, there is an inverse
  pub in_inverse : Permutes (ThomasIn r s) n → IsInverse r s u
  in_inverse p =
      let q = onto n there p.below p.once (1 % n) (mod_below 1 n some) in
      let i = q.0 / s in
      let j = q.0 % s in
      let by_r : (s * i) % r ≡ 1 % r =
      sym (left r s i j r1) ∙ sym (mod-mod_of_dvd r (s * i + r * j) (dvd-mul_right r s)) ∙ ap (λ z. z % r) q.2
      ∙ mod-mod_of_dvd r 1 (dvd-mul_right r s) in
      let by_s : (r * j) % s ≡ 1 % s =
      sym (left s r j i s1) ∙ ap (λ z. z % s) (omega arith)
      ∙ sym (mod-mod_of_dvd s (s * i + r * j) (dvd-mul_left s r)) ∙ ap (λ z. z % s) q.2
      ∙ mod-mod_of_dvd s 1 (dvd-mul_left s r) in
      inverse_is r s i j r1 s1 some by_r by_s
    where
      more_turns : (r x j : ℕ) → 0 < r → (x + j * r) % r ≡ x % r
      more_turns r x j positive =
          add-mod x (j * r) r ∙ ap (λ z. (x % r + z) % r) (whole_none j r positive) ∙ ap (λ z. z % r) (omega arith)
          ∙ mod-mod x r

      left : (r s i j : ℕ) → 0 < r → (s * i + r * j) % r ≡ (s * i) % r
      left r s i j positive = ap (λ z. z % r) (omega arith) ∙ more_turns r (s * i) j positive
