-- The tests of a size and of Good-Thomas factors.
use Rattle.std.proofs.Common.{◌≡◌, ℕ, zero, suc, ◌/◌, ◌%◌, ◌<◌, ◌≤◌, Bool, true, false, not, ◌&&◌, ◌||◌, eqb, ltb}
use Rattle.std.proofs.Common.{IsTrue, ◌↔◌, refl, sym, ap, ap₂, arith, ◌∙◌, mul_comm, ⊎_elim}
use Rattle.std.specs.Int.{IsGcd, ◌∣◌}
use Rattle.std.proofs.lemmas.Bool.{eq-eqb, eqb-true, lt-ltb, ltb-true, cases_lt, or_parts}
use Rattle.std.proofs.lemmas.Nat.Gcd.{dvd_of_mod-eq-zero, mod-eq-zero_of_dvd, dvd_refl, le_of_dvd}
use Rattle.std.proofs.Math.Nat.{eq-zero_of_zero-dvd, one-dvd}
use Rattle.tree_model.proofs.Splits.{product_div}
use Rattle.spl_ast.specs.Shape.{IsMultiple}
use Rattle.spl_text.specs.Fault.{share_factor, are_coprime}

pub multiple : (n r : ℕ) → n % r ≡ 0 → IsMultiple n r
multiple n r h = mul_comm (n / r) r ∙ product_div n r h

-- no number up to n divides both
no_shared : (n r s : ℕ) → share_factor n r s ≡ false → (d : ℕ) → 2 ≤ d → d ≤ n → r % d ≡ 0 → s % d ≡ 0 → ⊥
unfolding share_factor
no_shared zero r s e d low high hr hs = omega arith
no_shared (suc n) r s e d low high hr hs =
    let parts = or_parts (ltb 0 n && (eqb (r % suc n) 0 && eqb (s % suc n) 0)) (share_factor n r s) e in
    ⊎_elim
    (λ below. no_shared n r s parts.1 d low (omega arith) hr hs)
    (λ over.
    let same : d ≡ suc n = omega arith in
    let here : (ltb 0 n && (eqb (r % suc n) 0 && eqb (s % suc n) 0)) ≡ true =
    ap₂ (λ a b. a && b) (lt-ltb 0 n (omega arith))
    (ap₂ (λ a b. a && b) (eq-eqb (r % suc n) 0 (ap (λ m. r % m) (sym same) ∙ hr)) (eq-eqb (s % suc n) 0 (ap (λ m. s % m) (sym same) ∙ hs)))
    in absurd (apart (sym here ∙ parts.0)))
    (cases_lt d (suc n))
  where
    apart : true ≡ false → ⊥
    apart h = cc

-- the test finds nothing where nothing divides both
none_shared : (n r s : ℕ) → ((d : ℕ) → 2 ≤ d → d ≤ n → r % d ≡ 0 → s % d ≡ 0 → ⊥) → share_factor n r s ≡ false
unfolding share_factor
none_shared zero r s none = refl
none_shared (suc n) r s none =
    ap₂ (λ a b. a || b)
    (here (ltb 0 n) (eqb (r % suc n) 0) (eqb (s % suc n) 0) (λ a b c. none (suc n) (omega (arith, ltb-true 0 n a)) (omega arith) (eqb-true (r % suc n) 0 b) (eqb-true (s % suc n) 0 c)))
    (none_shared n r s (λ d low high hr hs. none d low (omega arith) hr hs))
  where
    here : (a b c : Bool) → (a ≡ true → b ≡ true → c ≡ true → ⊥) → (a && (b && c)) ≡ false
    here true true true h = absurd (h refl refl refl)
    here true true false h = refl
    here true false c h = refl
    here false b c h = refl

pub shared_from_gcd : (r s : ℕ) → IsGcd r s 1 → share_factor r r s ≡ false
shared_from_gcd r s h =
    none_shared r r s (λ d low high hr hs.
    let unit : d ≤ 1 = le_of_dvd (omega arith) (h.2 d (dvd_of_mod-eq-zero d hr) (dvd_of_mod-eq-zero d hs)) in omega arith)

pub gcd_from_shared : (r s : ℕ) → 0 < r → share_factor r r s ≡ false → IsGcd r s 1
gcd_from_shared r s pos e = (one-dvd r, one-dvd s, common)
  where
    common : (d : ℕ) → d ∣ r → d ∣ s → d ∣ 1
    common zero hr hs = let none : r ≡ 0 = eq-zero_of_zero-dvd hr in absurd (omega arith)
    common (suc zero) hr hs = dvd_refl 1
    common (suc (suc d)) hr hs =
        absurd (no_shared r r s e (suc (suc d)) (omega arith) (le_of_dvd pos hr) (mod-eq-zero_of_dvd (suc (suc d)) hr) (mod-eq-zero_of_dvd (suc (suc d)) hs))

decided : (b c : Bool) → (b ≡ true → c ≡ false) → (c ≡ false → b ≡ true) → b ≡ not c
decided true c h k = sym (ap not (h refl))
decided false true h k = refl
decided false false h k = k refl

-- what the code tests is the test
pub are_coprime_is : (r s : ℕ) (b : Bool) → 2 ≤ r → 2 ≤ s → (IsTrue b ↔ IsGcd r s 1) → b ≡ are_coprime r s
are_coprime_is r s b low_r low_s h =
    decided b (share_factor r r s) (λ yes. shared_from_gcd r s (h.0 yes)) (λ none. h.1 (gcd_from_shared r s (omega arith) none))
    ∙ sym (ap₂ (λ x y. x && (y && not (share_factor r r s))) (lt-ltb 1 r (omega arith)) (lt-ltb 1 s (omega arith)))
