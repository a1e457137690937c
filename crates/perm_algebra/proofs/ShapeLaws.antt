-- What simplification adds to a sum that a divisor takes apart.
use Rattle.std.proofs.Common.{◌≡◌, ℕ, ◌+◌, ◌*◌, ◌%◌, ◌<◌, ◌≤◌, inl, inr, arith, refl, ap}
use Rattle.std.specs.Prelude.{◌==◌}
use Rattle.std.proofs.lemmas.Bool.{cases_eq, cases_lt}
use Rattle.std.proofs.lemmas.Bool.Decides.{nat_tests}
use Rattle.std.proofs.lemmas.Nat.{mul-lt}
use Rattle.perm_algebra.specs.Affine.{Sum, constant, variable, remainder, quotient, top, scaled, added, head, rest_of}
use Rattle.perm_algebra.specs.Affine.{Divided, divided, mods, reduced, simplified}
use Rattle.perm_algebra.specs.ShapeLaw.{tally, AddsRemainders, IsModulo, KeepsShape, ShapeKept}
use Rattle.perm_algebra.proofs.Reduced.{mods-below}
use Rattle.perm_algebra.proofs.ShapeAny.{divided-apart}
use Rattle.perm_algebra.proofs.Kept.{picked}

tally-scaled : (q r k : ℕ) (e : Sum) → tally q r (scaled k e) ≡ tally q r e
tally-scaled q r k (constant c) = refl
tally-scaled q r k (variable f d rest) = tally-scaled q r k rest
tally-scaled q r k (remainder f of m rest) = ap (λ n. r + tally q r of + n) (tally-scaled q r k rest)
tally-scaled q r k (quotient f of m rest) = ap (λ n. q + tally q r of + n) (tally-scaled q r k rest)

tally-added : (q r : ℕ) (a e : Sum) → tally q r (added a e) ≡ tally q r a + tally q r e
tally-added q r (constant c) (constant d) = refl
tally-added q r (constant c) (variable f d rest) = omega (arith, tally-added q r (constant c) rest)
tally-added q r (constant c) (remainder f of m rest) = omega (arith, tally-added q r (constant c) rest)
tally-added q r (constant c) (quotient f of m rest) = omega (arith, tally-added q r (constant c) rest)
tally-added q r (variable f d rest) e = omega (arith, tally-added q r rest e)
tally-added q r (remainder f of m rest) e = omega (arith, tally-added q r rest e)
tally-added q r (quotient f of m rest) e = omega (arith, tally-added q r rest e)

tally-split : (q r s : ℕ) (e : Sum) → tally q r (head s e) + tally q r (rest_of s e) ≡ tally q r e
tally-split q r s (constant c) = refl
tally-split q r s (variable f d rest) =
    elim (cases_eq (f % s) 0) [
      | inl whole ↦ grind (arith, nat_tests, tally-split q r s rest)
      | inr other ↦ grind (arith, nat_tests, tally-split q r s rest)
    ]
tally-split q r s (remainder f of m rest) =
    elim (cases_eq (f % s) 0) [
      | inl whole ↦ grind (arith, nat_tests, tally-split q r s rest)
      | inr other ↦ grind (arith, nat_tests, tally-split q r s rest)
    ]
tally-split q r s (quotient f of m rest) =
    elim (cases_eq (f % s) 0) [
      | inl whole ↦ grind (arith, nat_tests, tally-split q r s rest)
      | inr other ↦ grind (arith, nat_tests, tally-split q r s rest)
    ]

tally-mods : (q r n : ℕ) (e : Sum) → tally q r (mods n e) ≤ tally q r e
tally-mods q r n (constant c) = omega arith
tally-mods q r n (variable f d rest) =
    let k = tally-mods q r n rest in
    picked (λ s. tally q r s ≤ tally q r rest) (f % n == 0) _ _ k k
tally-mods q r n (remainder f of m rest) =
    let k = tally-mods q r n rest in
    picked (λ s. tally q r s ≤ tally q r (remainder f of m rest)) (f % n == 0) _ _ (omega arith) (omega arith)
tally-mods q r n (quotient f of m rest) =
    let k = tally-mods q r n rest in
    picked (λ s. tally q r s ≤ tally q r (quotient f of m rest)) (f % n == 0) _ _ (omega arith) (omega arith)

tally-reduced : (q r : ℕ) (cs : ℕ → ℕ) (n : ℕ) (e : Sum) → tally q r (reduced cs n e) ≤ r + tally q r e
tally-reduced q r cs n e =
    elim (cases_lt (top (mods n e) cs) n) [
      | inl small ↦ let is : reduced cs n e ≡ mods n e = grind (arith, nat_tests) in rw is (omega (arith, tally-mods q r n e))
      | inr over ↦ let is : reduced cs n e ≡ remainder 1 (mods n e) n (constant 0) = grind (arith, nat_tests) in rw is (omega (arith, tally-mods q r n e))
    ]

modulo : (cs : ℕ → ℕ) (n : ℕ) (e : Sum) → 0 < n → IsModulo n (reduced cs n e)
modulo cs n e positive =
    record {
      inner = mods n e;
      below = mods-below n e positive;
      is = elim (cases_lt (top (mods n e) cs) n) [
        | inl small ↦ inl (grind (arith, nat_tests))
        | inr over ↦ inr (grind (arith, nat_tests))
      ];
    }

-- the two parts, each times a number
tally-parts : (q r x y s : ℕ) (e : Sum) → tally q r (added (scaled x (head s e)) (scaled y (rest_of s e)))
    ≡ tally q r e
tally-parts q r x y s e = omega (arith, tally-added q r (scaled x (head s e)) (scaled y (rest_of s e)), tally-scaled q r x (head s e), tally-scaled q r y (rest_of s e), tally-split q r s e)

tally-turned : (q r k s : ℕ) (e : Sum) → tally q r (added (scaled k (rest_of s e)) (head s e)) ≡ tally q r e
tally-turned q r k s e = omega (arith, tally-added q r (scaled k (rest_of s e)) (head s e), tally-scaled q r k (rest_of s e), tally-split q r s e)

adds-mixed : (cs : ℕ → ℕ) (n x y s : ℕ) (e : Sum) → AddsRemainders 1 e
    (reduced cs n (added (scaled x (head s e)) (scaled y (rest_of s e))))
adds-mixed cs n x y s e =
    let mixed = added (scaled x (head s e)) (scaled y (rest_of s e)) in
    record {
      quotients = omega (arith, tally-reduced 1 0 cs n mixed, tally-parts 1 0 x y s e);
      remainders = omega (arith, tally-reduced 0 1 cs n mixed, tally-parts 0 1 x y s e);
    }

keeps-shape : (cs : ℕ → ℕ) (r s : ℕ) (e : Sum) → 0 < r → 0 < s → divided cs s e ≡ record { quot = head s e; rem = rest_of s e } → KeepsShape cs r s e
keeps-shape cs r s e r_positive s_positive apart =
    let positive : 0 < r * s = mul-lt 0 0 r s r_positive s_positive in
    record {
      turn = rw apart (record { quotients = omega (arith, tally-turned 1 0 r s e); remainders = omega (arith, tally-turned 0 1 r s e) });
      thomas_in = rw apart (adds-mixed cs (r * s) s r s e, modulo cs (r * s) (added (scaled s (head s e)) (scaled r (rest_of s e))) positive);
      thomas_back = λ u v. rw apart (adds-mixed cs (r * s) u v s e, modulo cs (r * s) (added (scaled u (head s e)) (scaled v (rest_of s e))) positive);
      tensor = λ f c g. ap (λ (z : Divided). added (scaled c (simplified cs f z.quot)) (simplified cs g z.rem)) apart;
    }

pub shape_kept : ShapeKept
shape_kept cs r s a rest r_positive s_positive small =
    keeps-shape cs r s (added (scaled s a) rest) r_positive s_positive (divided-apart s a rest cs s_positive small)
