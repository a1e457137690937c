-- Bounds of the numbers in registers, and writes to lists of numbers.
use Rattle.std.proofs.Common.{◌≡◌, ℕ, zero, suc, ◌+◌, ◌-◌, ◌*◌, ◌<◌, ◌≤◌, ◌≢◌, ◌⊎◌, inl, inr, List, [], ◌∷◌}
use Rattle.std.proofs.Common.{length, sym}
use Rattle.std.proofs.Common.{ap, ◌∙◌, subst, refl, arith, mul-le-mul_left, ⊎_elim, ℤ, pos, unsigned_abs}
use Rattle.std.proofs.Common.{get_or-set_other}
use Rattle.std.specs.Prelude.{slice_set}
use Rattle.std.proofs.lemmas.Bool.{cases_lt}
use Rattle.double_code.specs.DoubleMachine.{with_numbers, numbers_of}
use Rattle.double_code.proofs.Numbers.{Each, each-numbers_at, number}

-- a number that is not written
elsewhere : (vs xs : List ℤ) (i k : ℕ) → (i ≤ k → k < i + length vs → ⊥) →
    number (with_numbers xs i vs) k ≡ number xs k
elsewhere [] xs i k h = refl
elsewhere (v ∷ vs) xs i k h =
    let ne : k ≢ i = λ e. h (omega arith) (omega arith) in
    elsewhere vs (slice_set xs i v) (i + 1) k (λ a b. h (omega arith) (omega arith))
    ∙ get_or-set_other xs i k v (pos 0) ne

set_here : (P : ℤ → Type 0) (xs : List ℤ) (i : ℕ) (v : ℤ) → P v → P (pos 0) → P (number (slice_set xs i v) i)
set_here P [] i v p none = none
set_here P (x ∷ xs) zero v p none = p
set_here P (x ∷ xs) (suc i) v p none = set_here P xs i v p none

-- a number that is written, or 0 past the end
written_has : (P : ℤ → Type 0) (vs xs : List ℤ) (i l : ℕ) → l < length vs → Each P vs → P (pos 0) →
    P (number (with_numbers xs i vs) (i + l))
written_has P [] xs i l lt are none = absurd (omega arith)
written_has P (v ∷ vs) xs i zero lt are none =
    let same : i + 0 ≡ i = omega arith in
    let value : number (with_numbers xs i (v ∷ vs)) (i + 0) ≡ number (slice_set xs i v) i =
    ap (number (with_numbers (slice_set xs i v) (i + 1) vs)) same
    ∙ elsewhere vs (slice_set xs i v) (i + 1) i (λ a b. omega arith) in
    subst P (sym value) (set_here P xs i v are.0 none)
written_has P (v ∷ vs) xs i (suc l) lt are none =
    let place : i + suc l ≡ i + 1 + l = omega arith in
    subst (λ n. P (number (with_numbers (slice_set xs i v) (i + 1) vs) n)) (sym place)
    (written_has P vs (slice_set xs i v) (i + 1) l (omega arith) are.1 none)

-- either: what the numbers that are written have where they come to stand, and the old ones elsewhere
pub write_has : (P Q : ℤ → Type 0) (vs xs : List ℤ) (i k : ℕ) → Each P vs → P (pos 0) →
    (i ≤ k → k < i + length vs → (z : ℤ) → P z → Q z) → Q (number xs k) → Q (number (with_numbers xs i vs) k)
write_has P Q vs xs i k are none leads old =
    ⊎_elim
    (λ (before : k < i). subst Q (sym (elsewhere vs xs i k (λ a b. omega arith))) old)
    (λ (from : i ≤ k). ⊎_elim
    (λ (inside : k < i + length vs).
    let l : i + (k - i) ≡ k = omega arith in
    leads from inside (number (with_numbers xs i vs) k)
    (subst (λ n. P (number (with_numbers xs i vs) n)) l (written_has P vs xs i (k - i) (omega arith) are none)))
    (λ (after : i + length vs ≤ k). subst Q (sym (elsewhere vs xs i k (λ a b. omega arith))) old)
    (cases_lt k (i + length vs)))
    (cases_lt k i)

-- a number of at most this size
abbrev pub Within : ℕ → ℤ → Type 0
Within bound z = unsigned_abs z ≤ bound

-- what the numbers of each register are at most
abbrev pub Bounds : Type 0
Bounds = ℕ → ℕ

pub record AreRegistersWithin (lanes : ℕ) (b : Bounds) (xs : List ℤ) : Type 0 where
  pub each : (r l : ℕ) → l < lanes → Within (b r) (number xs (r * lanes + l))

pub register_within : (lanes : ℕ) (b : Bounds) (xs : List ℤ) (r : ℕ) → AreRegistersWithin lanes b xs →
    Each (Within (b r)) (numbers_of lanes xs r)
register_within lanes b xs r are = each-numbers_at (Within (b r)) lanes xs (r * lanes) (λ l lt. are.each r l lt)

pub weaker : (lanes : ℕ) (b c : Bounds) (xs : List ℤ) → ((r : ℕ) → b r ≤ c r) → AreRegistersWithin lanes b xs →
    AreRegistersWithin lanes c xs
weaker lanes b c xs le are =
    record { each = λ r l lt. let here = are.each r l lt in let up = le r in omega (arith, here, up) }

-- n registers from r on get the numbers, and c is what they and the others are within then
pub put_within : (lanes n r v : ℕ) (b c : Bounds) (xs vs : List ℤ) → AreRegistersWithin lanes b xs →
    Each (Within v) vs → length vs ≡ n * lanes →
    ((q : ℕ) → r ≤ q → q < r + n → v ≤ c q) → ((q : ℕ) → (q < r) ⊎ (r + n ≤ q) → b q ≤ c q) →
    AreRegistersWithin lanes c (with_numbers xs (r * lanes) vs)
put_within lanes n r v b c xs vs are low long new old = record { each = at }
  where
    kept : (q l : ℕ) → l < lanes → (q < r) ⊎ (r + n ≤ q) →
        Within (c q) (number (with_numbers xs (r * lanes) vs) (q * lanes + l))
    kept q l lt apart =
        let here = are.each q l lt in
        let up = old q apart in
        let stays = elsewhere vs xs (r * lanes) (q * lanes + l) (λ from to. elim apart [
          | inl lower ↦ let a = mul-le-mul_left lanes lower in omega (arith, from, a, lt)
          | inr higher ↦
              let a = mul-le-mul_left lanes higher in
              let e : lanes * (r + n) ≡ r * lanes + n * lanes = omega arith in omega (arith, to, a, e, long)
        ]) in
        subst (Within (c q)) (sym stays) (omega (arith, here, up))

    inside : (q l : ℕ) → l < lanes → r ≤ q → q < r + n →
        Within (c q) (number (with_numbers xs (r * lanes) vs) (q * lanes + l))
    inside q l lt from to =
        let d : q ≡ r + (q - r) = omega arith in
        let place : r * lanes + ((q - r) * lanes + l) ≡ q * lanes + l =
        sym (ap (λ k. k * lanes + l) d ∙ spread (q - r)) in
        let row : suc (q - r) ≤ n = omega arith in
        let within : (q - r) * lanes + l < length vs =
        let a = mul-le-mul_left lanes row in
        let e : lanes * suc (q - r) ≡ (q - r) * lanes + lanes = omega arith in omega (arith, a, e, lt, long) in
        let here = subst (λ k. Within v (number (with_numbers xs (r * lanes) vs) k)) place
        (written_has (Within v) vs xs (r * lanes) ((q - r) * lanes + l) within low (omega arith)) in
        let up = new q from to in
        omega (arith, here, up)
      where
        spread : (e : ℕ) → (r + e) * lanes + l ≡ r * lanes + (e * lanes + l)
        spread e = omega arith

    at : (q l : ℕ) → l < lanes → Within (c q) (number (with_numbers xs (r * lanes) vs) (q * lanes + l))
    at q l lt =
        ⊎_elim
        (λ (lower : q < r). kept q l lt (inl lower))
        (λ (from : r ≤ q). ⊎_elim
        (λ (to : q < r + n). inside q l lt from to)
        (λ (higher : r + n ≤ q). kept q l lt (inr higher))
        (cases_lt q (r + n)))
        (cases_lt q r)
