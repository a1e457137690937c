-- What is divided, in parts.
use Rattle.std.proofs.Common.{◌≡◌, ℕ, ◌+◌, ◌*◌, ◌/◌, ◌%◌, ◌<◌, ◌≤◌, inl, inr, arith, sym, ap, ◌∙◌, mod-eq_of_lt}
use Rattle.std.proofs.lemmas.Bool.{cases_eq}
use Rattle.std.proofs.lemmas.Bool.Decides.{nat_tests}
use Rattle.std.proofs.lemmas.Nat.{div-mul-add, mod-mul-add, mul-le}
use Rattle.perm_algebra.specs.Affine.{Sum, constant, variable, remainder, quotient, value, top, head, rest_of, divided}
use Rattle.perm_algebra.specs.Affine.{mods, reduced}
use Rattle.perm_algebra.specs.Fits.{Agree, InRange, IsAffine, Stays}
use Rattle.perm_algebra.specs.Room.{HasTop, CanDivide}
use Rattle.perm_algebra.proofs.AffineLaws.{value-divided}
use Rattle.perm_algebra.proofs.Kept.{kept-head, kept-rest, kept-mods, affinity}
use Rattle.perm_algebra.proofs.Reduced.{value-mods}

-- a factor modulo s is no greater
part_le : (f s x a b : ℕ) → a ≤ b → f % s * x + a ≤ f * x + b
part_le f s x a b h = let same : x ≤ x = omega arith in let less : f % s * x ≤ f * x = mul-le (f % s) x f x (mod_le f s) same in omega arith
  where
    mod_le : (f s : ℕ) → f % s ≤ f
    mod_le f s = omega arith

value-mods-le : (s : ℕ) (e : Sum) (vs : ℕ → ℕ) → value (mods s e) vs ≤ value e vs
value-mods-le s (constant c) vs = omega arith
value-mods-le s (variable f d rest) vs =
    elim (cases_eq (f % s) 0) [
      | inl gone ↦ grind (arith, nat_tests, value-mods-le s rest vs)
      | inr other ↦ grind (arith, nat_tests, part_le f s (vs d) (value (mods s rest) vs) (value rest vs) (value-mods-le s rest vs))
    ]
value-mods-le s (remainder f of m rest) vs =
    elim (cases_eq (f % s) 0) [
      | inl gone ↦ grind (arith, nat_tests, value-mods-le s rest vs)
      | inr other ↦ grind (arith, nat_tests, part_le f s (value of vs % m) (value (mods s rest) vs) (value rest vs) (value-mods-le s rest vs))
    ]
value-mods-le s (quotient f of m rest) vs =
    elim (cases_eq (f % s) 0) [
      | inl gone ↦ grind (arith, nat_tests, value-mods-le s rest vs)
      | inr other ↦ grind (arith, nat_tests, part_le f s (value of vs / m) (value (mods s rest) vs) (value rest vs) (value-mods-le s rest vs))
    ]

-- ---- as the contracts say it

pub affine_head : (n : ℕ) (cs : ℕ → ℕ) (s : ℕ) (e q : Sum) → q ≡ head s e → IsAffine n cs e → IsAffine n cs q
affine_head n cs s e q is h = rw is (kept-head (IsAffine n cs) (affinity n cs) s e h)

pub affine_rest : (n : ℕ) (cs : ℕ → ℕ) (s : ℕ) (e r : Sum) → r ≡ rest_of s e → IsAffine n cs e → IsAffine n cs r
affine_rest n cs s e r is h = rw is (kept-rest (IsAffine n cs) (affinity n cs) s e h)

pub affine_mods : (n : ℕ) (cs : ℕ → ℕ) (s : ℕ) (e r : Sum) → r ≡ mods s e → IsAffine n cs e → IsAffine n cs r
affine_mods n cs s e r is h = rw is (kept-mods (IsAffine n cs) (affinity n cs) s e h)

pub fits_rest : (cs : ℕ → ℕ) (s : ℕ) (e r : Sum) → r ≡ rest_of s e → Stays cs (value e) → Stays cs (value r)
fits_rest cs s e r is h vs range = rw is (omega (arith, h vs range, value-divided s e vs))

pub fits_mods : (cs : ℕ → ℕ) (s : ℕ) (e r : Sum) → r ≡ mods s e → Stays cs (value e) → Stays cs (value r)
fits_mods cs s e r is h vs range = rw is (omega (arith, h vs range, value-mods-le s e vs))

-- where the rest stays below the divisor
pub quotient_read : (cs : ℕ → ℕ) (s : ℕ) (e q r : Sum) (g : ℕ) → q ≡ head s e → r ≡ rest_of s e →
    ((vs : ℕ → ℕ) → InRange cs vs → value r vs ≤ g) → g < s → Agree cs (value q) (λ vs. value e vs / s)
quotient_read cs s e q r g q_is r_is bound small vs range =
    let below : value (rest_of s e) vs < s = let b = rw r_is at (bound vs range) in omega (arith, b) in
    let whole : value e vs ≡ value (head s e) vs * s + value (rest_of s e) vs = omega (arith, value-divided s e vs) in
    rw q_is (sym (ap (λ n. n / s) whole ∙ div-mul-add (value (head s e) vs) s (value (rest_of s e) vs) below))

pub remainder_read : (cs : ℕ → ℕ) (s : ℕ) (e r : Sum) (g : ℕ) → r ≡ rest_of s e →
    ((vs : ℕ → ℕ) → InRange cs vs → value r vs ≤ g) → g < s → Agree cs (value r) (λ vs. value e vs % s)
remainder_read cs s e r g r_is bound small vs range =
    let below : value (rest_of s e) vs < s = let b = rw r_is at (bound vs range) in omega (arith, b) in
    let whole : value e vs ≡ value (head s e) vs * s + value (rest_of s e) vs = omega (arith, value-divided s e vs) in
    rw r_is (sym (ap (λ n. n % s) whole ∙ mod-mul-add (value (head s e) vs) s (value (rest_of s e) vs) below))

pub quotient_form : (cs : ℕ → ℕ) (s : ℕ) (e q r : Sum) (g : ℕ) → q ≡ head s e → r ≡ rest_of s e →
    (HasTop cs r → g ≡ top r cs) → g < s → CanDivide cs s e → q ≡ (divided cs s e).quot
quotient_form cs s e q r g q_is r_is exact small room =
    let small' : top (rest_of s e) cs < s = let t = (rw r_is at exact) room in omega (arith, t) in
    q_is ∙ grind (arith, nat_tests)

pub remainder_form : (cs : ℕ → ℕ) (s : ℕ) (e r : Sum) (g : ℕ) → r ≡ rest_of s e → (HasTop cs r → g ≡ top r cs) → g < s →
    CanDivide cs s e → r ≡ (divided cs s e).rem
remainder_form cs s e r g r_is exact small room =
    let small' : top (rest_of s e) cs < s = let t = (rw r_is at exact) room in omega (arith, t) in
    r_is ∙ grind (arith, nat_tests)

-- where it may not
pub quotient_written : (cs : ℕ → ℕ) (s : ℕ) (e r : Sum) (g : ℕ) → r ≡ rest_of s e → (HasTop cs r → g ≡ top r cs) →
    s ≤ g → CanDivide cs s e → quotient 1 e s (constant 0) ≡ (divided cs s e).quot
quotient_written cs s e r g r_is exact large room =
    let large' : s ≤ top (rest_of s e) cs = let t = (rw r_is at exact) room in omega (arith, t) in grind (arith, nat_tests)

pub remainder_written : (cs : ℕ → ℕ) (s : ℕ) (e r : Sum) (g : ℕ) → r ≡ rest_of s e → (HasTop cs r → g ≡ top r cs) →
    s ≤ g → CanDivide cs s e → remainder 1 e s (constant 0) ≡ (divided cs s e).rem
remainder_written cs s e r g r_is exact large room =
    let large' : s ≤ top (rest_of s e) cs = let t = (rw r_is at exact) room in omega (arith, t) in grind (arith, nat_tests)

-- modulo n
pub reduced_read : (cs : ℕ → ℕ) (n : ℕ) (e r : Sum) (g : ℕ) → r ≡ mods n e →
    ((vs : ℕ → ℕ) → InRange cs vs → value r vs ≤ g) → g < n → Agree cs (value r) (λ vs. value e vs % n)
reduced_read cs n e r g is bound small vs range =
    let below : value (mods n e) vs < n = let b = rw is at (bound vs range) in omega (arith, b) in
    rw is (sym (mod-eq_of_lt below) ∙ value-mods n e vs)

pub reduced_written : (n : ℕ) (e r : Sum) (vs : ℕ → ℕ) → r ≡ mods n e → 1 * (value r vs % n) + 0 ≡ value e vs % n
reduced_written n e r vs is = rw is (omega (arith, value-mods n e vs))

pub reduced_form : (cs : ℕ → ℕ) (n : ℕ) (e r : Sum) (g : ℕ) → r ≡ mods n e → (HasTop cs r → g ≡ top r cs) → g < n →
    HasTop cs (mods n e) → r ≡ reduced cs n e
reduced_form cs n e r g is exact small room =
    let small' : top (mods n e) cs < n = let t = (rw is at exact) room in omega (arith, t) in
    is ∙ grind (arith, nat_tests)

pub reduced_form_written : (cs : ℕ → ℕ) (n : ℕ) (e r : Sum) (g : ℕ) → r ≡ mods n e → (HasTop cs r → g ≡ top r cs) →
    n ≤ g → HasTop cs (mods n e) → remainder 1 r n (constant 0) ≡ reduced cs n e
reduced_form_written cs n e r g is exact large room =
    let large' : n ≤ top (mods n e) cs = let t = (rw is at exact) room in omega (arith, t) in
    ap (λ x. remainder 1 x n (constant 0)) is ∙ grind (arith, nat_tests)
