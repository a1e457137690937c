-- The inverse of the places after a Good-Thomas step.
use Rattle.std.proofs.Common.{◌≡◌, ℕ, ◌+◌, ◌*◌, ◌/◌, ◌%◌, ◌<◌, ◌≤◌, ◌^◌, ◌-◌, ◌≢◌, zero, suc, refl, subst, le_refl, sym}
use Rattle.std.proofs.Common.{ap, ap₂, ◌∙◌, arith, inl, inr}
use Rattle.std.proofs.Math.Nat.{add-mod, mod-mod_of_dvd, dvd-mul_right, dvd-mul_left, mod-eq_of_lt, add-mul}
use Rattle.std.proofs.lemmas.Nat.{mod_below, div_below, mul-mod_second, div-add-mod', mul-le, mul-add-lt, mod-mul-add}
use Rattle.std.proofs.lemmas.Nat.{div-mul-add}
use Rattle.std.proofs.lemmas.Bool.{cases_eq}
use Rattle.std.proofs.lemmas.Bool.Decides.{nat_tests}
use Rattle.index_fn.specs.Back.{back_of, unit_below}
use Rattle.index_fn.specs.Inverse.{Permutes, Undoes}
use Rattle.index_fn.specs.Mapping.{ThomasOut, ThomasBack, at, IsUnit, HasUnit, IsWellFormed}
use Rattle.index_fn.proofs.Onto.{onto}

-- what leaves 1 keeps a remainder, and what leaves 0 takes it away
remainder_by : (r a b e g : ℕ) → a < r → e % r ≡ 1 % r → g % r ≡ 0 → (a * e + b * g) % r ≡ a
remainder_by r a b e g h one none =
    let pos : 0 < r = omega arith in
    let kept : (a * e) % r ≡ a % r = sym (mul-mod_second a e r) ∙ ap (λ n. (a * n) % r) one ∙ mul-mod_second a 1 r ∙ ap (λ n. n % r) (omega arith) in
    let gone : (b * g) % r ≡ 0 = sym (mul-mod_second b g r) ∙ ap (λ n. (b * n) % r) none ∙ zero_mod in
    add-mod (a * e) (b * g) r ∙ ap₂ (λ x y. (x + y) % r) kept gone ∙ last
  where
    zero_mod : (b * 0) % r ≡ 0
    zero_mod = ap (λ n. n % r) (omega arith) ∙ mod-eq_of_lt (omega arith)

    last : (a % r + 0) % r ≡ a
    last = let e : a % r ≡ a = mod-eq_of_lt h in ap (λ n. n % r) (omega (arith, e)) ∙ e

out_back : (r s e g : ℕ) → 1 ≤ r → 1 ≤ s → IsUnit r s e → IsUnit s r g → (i : ℕ) → i < r * s →
    at (ThomasOut r s) (at (ThomasBack r s e g) i) ≡ i
out_back r s e g r1 s1 u w i h =
    let a : i / s < r = div_below i s r s1 h in
    let b : i % s < s = mod_below i s s1 in
    let y = (i / s) * e + (i % s) * g in
    let by_r : y % (r * s) % r ≡ i / s = mod-mod_of_dvd r y (dvd-mul_right r s) ∙ remainder_by r (i / s) (i % s) e g a u.one w.multiple in
    let by_s : y % (r * s) % s ≡ i % s = mod-mod_of_dvd s y (dvd-mul_left s r) ∙ ap (λ t. t % s) (omega arith) ∙ remainder_by s (i % s) (i / s) g e b w.one u.multiple in
    ap₂ (λ p q. p * s + q) by_r by_s ∙ div-add-mod' i s

-- r + s is at most r * s + 1
factors_below : (r s : ℕ) → 1 ≤ r → 1 ≤ s → r - 1 + (s - 1) ≤ r * s - 1
factors_below zero s r1 s1 = absurd (omega arith)
factors_below (suc r) zero r1 s1 = absurd (omega arith)
factors_below (suc r) (suc s) r1 s1 = let whole : suc r * suc s ≡ r * s + r + s + 1 = omega arith in omega (arith, whole)

pub thomas_out_undoes : (r s e g : ℕ) → 1 ≤ r → 1 ≤ s → r * s < 2 ^ 32 → IsUnit r s e → IsUnit s r g →
    Undoes (ThomasOut r s) (ThomasBack r s e g) (r * s)
thomas_out_undoes r s e g r1 s1 small u w =
    record {
      well_formed = (r1, s1, omega arith, u, w);
      size_is = refl;
      permutes = record {
        fits = omega arith;
        defined = λ i h. (h, room i h);
        below = λ i h. mod_below _ n n_pos;
        once = once;
      };
      undoes = λ k h. undoes k h;
      undone = undone;
    }
  where
    n : ℕ
    n = r * s

    n_pos : 0 < n
    n_pos = omega (arith, u.below)

    back : ℕ → ℕ
    back = at (ThomasBack r s e g)

    undone : (i : ℕ) → i < n → at (ThomasOut r s) (back i) ≡ i
    undone i h = out_back r s e g r1 s1 u w i h

    once : (i j : ℕ) → i < n → j < n → back i ≡ back j → i ≡ j
    once i j h k q = sym (undone i h) ∙ ap (at (ThomasOut r s)) q ∙ undone j k

    undoes : (k : ℕ) → k < n → back (at (ThomasOut r s) k) ≡ k
    undoes k h =
        let p = onto n back (λ j l. mod_below _ n n_pos) once k h in
        ap (λ v. back (at (ThomasOut r s) v)) (sym p.2) ∙ ap back (undone p.0 p.1) ∙ p.2

    -- (r - 1) * (n - 1) and (s - 1) * (n - 1) are together at most (n - 1) * (n - 1)
    room : (i : ℕ) → i < n → (i / s) * e + (i % s) * g < 2 ^ 64
    room i h =
        let a : i / s < r = div_below i s r s1 h in
        let b : i % s < s = mod_below i s s1 in
        let left : (i / s) * e ≤ (r - 1) * (n - 1) = mul-le (i / s) e (r - 1) (n - 1) (omega arith) (omega (arith, u.below)) in
        let right : (i % s) * g ≤ (s - 1) * (n - 1) = mul-le (i % s) g (s - 1) (n - 1) (omega arith) (omega (arith, w.below)) in
        let both : (r - 1) * (n - 1) + (s - 1) * (n - 1) ≤ (n - 1) * (n - 1) =
        subst (λ (v : ℕ). v ≤ (n - 1) * (n - 1)) (add-mul (r - 1) (s - 1) (n - 1)) (mul-le (r - 1 + (s - 1)) (n - 1) (n - 1) (n - 1) (factors_below r s r1 s1) (le_refl (n - 1))) in
        let whole : (n - 1) * (n - 1) ≤ (2 ^ 32 - 1) * (2 ^ 32 - 1) = mul-le (n - 1) (n - 1) (2 ^ 32 - 1) (2 ^ 32 - 1) (omega arith) (omega arith) in
        omega (arith, left, right, both, whole)

pub unit_found : (r s k : ℕ) → k < r → 1 ≤ s → (s * k) % r ≡ 1 % r → IsUnit r s (s * k)
unit_found r s k below pos one =
    let e : s * k ≡ k * s + 0 = omega arith in
    record {
      below = omega (arith, mul-add-lt k s 0 r below pos);
      one = one;
      multiple = ap (λ n. n % s) e ∙ mod-mul-add k s 0 pos;
    }

pub thomas_back_undoes : (r s e g : ℕ) → IsWellFormed (ThomasBack r s e g) → Permutes (ThomasBack r s e g) (r * s) →
    Undoes (ThomasBack r s e g) (ThomasOut r s) (r * s)
thomas_back_undoes r s e g w p =
    record {
      well_formed = (w.0, w.1, w.2);
      size_is = refl;
      permutes = record {
        fits = w.2;
        defined = λ i h. h;
        below = λ i h. omega (arith, mul-add-lt (i % r) s (i % s) r (mod_below i r w.0) (mod_below i s w.1));
        once = λ i j h k q. sym (undone i h) ∙ ap (at (ThomasBack r s e g)) q ∙ undone j k;
      };
      undoes = λ i h. out_back r s e g w.0 w.1 w.3 w.4 i h;
      undone = undone;
    }
  where
    undone : (k : ℕ) → k < r * s → at (ThomasBack r s e g) (at (ThomasOut r s) k) ≡ k
    undone k h =
        let q = onto (r * s) (at (ThomasBack r s e g)) p.below p.once k h in
        ap (λ v. at (ThomasBack r s e g) (at (ThomasOut r s) v)) (sym q.2) ∙ ap (at (ThomasBack r s e g)) (out_back r s e g w.0 w.1 w.3 w.4 q.0 q.1) ∙ q.2

-- where the places after a step are a permutation, the factors have units
module _ (r s : ℕ) (r1 : 1 ≤ r) (s1 : 1 ≤ s) (p : Permutes (ThomasOut r s) (r * s)) where
  source : (a b : ℕ) → a < r → b < s → (k : ℕ) × (k < r * s) × (k % r ≡ a) × (k % s ≡ b)
  source a b row below =
      let q = onto (r * s) (at (ThomasOut r s)) p.below p.once (a * s + b) (omega (arith, mul-add-lt a s b r row below)) in
      let narrow : q.0 % s < s = mod_below q.0 s s1 in (
        q.0,
        q.1,
        sym (div-mul-add (q.0 % r) s (q.0 % s) narrow) ∙ ap (λ v. v / s) q.2 ∙ div-mul-add a s b below,
        sym (mod-mul-add (q.0 % r) s (q.0 % s) narrow) ∙ ap (λ v. v % s) q.2 ∙ mod-mul-add a s b below,
      )

  pub first_unit : HasUnit r s
  first_unit =
      let q = source (1 % r) 0 (mod_below 1 r r1) s1 in
      (q.0, record { below = q.1; one = q.2; multiple = q.3 })

  pub second_unit : HasUnit s r
  second_unit =
      let q = source 0 (1 % s) r1 (mod_below 1 s s1) in
      (q.0, record { below = omega (arith, q.1); one = q.3; multiple = q.2 })

-- the search for a unit finds one, where there is one
pub unit_from : (r s bound k : ℕ) → bound ≤ r → 1 ≤ s → k < bound → (s * k) % r ≡ 1 % r
    → IsUnit r s (unit_below r s bound)
unit_from r s zero k h g below e = absurd (omega arith)
unit_from r s (suc b) k h g below e =
    elim (cases_eq ((s * b) % r) (1 % r)) [
      | inl here ↦
          let is : unit_below r s (suc b) ≡ s * b = grind (arith, nat_tests) in
          rw is (unit_found r s b (omega arith) g here)
      | inr other ↦
          let is : unit_below r s (suc b) ≡ unit_below r s b = grind (arith, nat_tests) in
          let apart : k ≢ b = λ same. other (ap (λ j. (s * j) % r) (sym same) ∙ e) in
          rw is (unit_from r s b k (omega arith) g (omega arith) e)
    ]

unit_is : (r s : ℕ) → 1 ≤ s → HasUnit r s → IsUnit r s (unit_below r s r)
unit_is r s s1 (e, u) =
    let whole : s * (e / s) ≡ e = omega (arith, div-add-mod' e s, u.multiple) in
    unit_from r s r (e / s) (le_refl r) s1 (div_below e s r s1 u.below) (ap (λ n. n % r) whole ∙ u.one)

pub out_undoes : (r s : ℕ) → 1 ≤ r → 1 ≤ s → r * s < 2 ^ 32 → Permutes (ThomasOut r s) (r * s)
    → Undoes (ThomasOut r s) (back_of (ThomasOut r s)) (r * s)
out_undoes r s r1 s1 small p =
    thomas_out_undoes r s (unit_below r s r) (unit_below s r s) r1 s1 small
    (unit_is r s s1 (first_unit r s r1 s1 p))
    (unit_is s r r1 (second_unit r s r1 s1 p))
