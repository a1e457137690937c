-- A simplified sum has the function's value.
use Rattle.std.proofs.Common.{◌≡◌, ℕ, ◌+◌, ◌*◌, ◌/◌, ◌%◌, ◌<◌, ◌≤◌, inl, inr, arith, refl, sym, ap, ap₂, ◌∙◌}
use Rattle.std.proofs.Common.{mod-eq_of_lt}
use Rattle.std.proofs.lemmas.Bool.{cases_lt}
use Rattle.std.proofs.lemmas.Nat.{mul-lt}
use Rattle.std.proofs.lemmas.Bool.Decides.{nat_tests}
use Rattle.index_fn.specs.Mapping.{Same, Always, Line, Strided, ThomasIn, ThomasOut, ThomasBack, Listed, Paired, After}
use Rattle.index_fn.specs.Mapping.{at}
use Rattle.perm_algebra.specs.Affine.{Sum, constant, remainder, quotient, value, top, IsSound, scaled, added, head}
use Rattle.perm_algebra.specs.Affine.{rest_of, Divided, divided, mods, reduced, simplified, AreBelowCounts}
use Rattle.perm_algebra.specs.Affine.{SimplifiedKeeps}
use Rattle.perm_algebra.proofs.AffineLaws.{value-scaled, value-added, value-le-top, reads-off}
use Rattle.perm_algebra.proofs.Kept.{sound-scaled, sound-added, sound-mods, sound-divided, sound-simplified}
use Rattle.perm_algebra.proofs.Reduced.{value-mods}

-- a multiple of a sum and another sum
value-with : (a : ℕ) (e g : Sum) (vs : ℕ → ℕ) → value (added (scaled a e) g) vs ≡ a * value e vs + value g vs
value-with a e g vs = value-added (scaled a e) g vs ∙ ap (λ x. x + value g vs) (value-scaled a e vs)

module _ (cs vs : ℕ → ℕ) (range : AreBelowCounts vs cs) where
  -- ---- quotient and remainder by a divisor

  record Divides (s : ℕ) (e : Sum) : Type 0 where
    quot : value (divided cs s e).quot vs ≡ value e vs / s
    rem : value (divided cs s e).rem vs ≡ value e vs % s

  divides : (s : ℕ) (e : Sum) → 0 < s → IsSound e → Divides s e
  divides s e positive sound =
      elim (cases_lt (top (rest_of s e) cs) s) [
        | inl small ↦
            let is : divided cs s e ≡ record { quot = head s e; rem = rest_of s e } = grind (arith, nat_tests) in
            let off = reads-off s e vs cs sound range small in
            record {
              quot = ap (λ (z : Divided). value z.quot vs) is ∙ sym off.quot;
              rem = ap (λ (z : Divided). value z.rem vs) is ∙ sym off.rem;
            }
        | inr large ↦
            let is : divided cs s e
            ≡ record { quot = quotient 1 e s (constant 0); rem = remainder 1 e s (constant 0) } =
            grind (arith, nat_tests) in
            record {
              quot = ap (λ (z : Divided). value z.quot vs) is ∙ omega arith;
              rem = ap (λ (z : Divided). value z.rem vs) is ∙ omega arith;
            }
      ]

  value-reduced : (n : ℕ) (e : Sum) → 0 < n → IsSound e → value (reduced cs n e) vs ≡ value e vs % n
  value-reduced n e positive sound =
      elim (cases_lt (top (mods n e) cs) n) [
        | inl small ↦
            let is : reduced cs n e ≡ mods n e = grind (arith, nat_tests) in
            let below : value (mods n e) vs < n =
            omega (arith, value-le-top (mods n e) vs cs (sound-mods n e sound) range) in
            ap (λ s. value s vs) is ∙ sym (mod-eq_of_lt below) ∙ value-mods n e vs
        | inr large ↦
            let is : reduced cs n e ≡ remainder 1 (mods n e) n (constant 0) = grind (arith, nat_tests) in
            ap (λ s. value s vs) is ∙ omega (arith, value-mods n e vs)
      ]

  -- a multiple of the quotient and one of the remainder, modulo the size
  value-mixed : (r s a b : ℕ) (e : Sum) → 1 ≤ r → 1 ≤ s → IsSound e →
      value (reduced cs (r * s) (added (scaled a (divided cs s e).quot) (scaled b (divided cs s e).rem))) vs
      ≡ (a * (value e vs / s) + b * (value e vs % s)) % (r * s)
  value-mixed r s a b e r_some s_some sound =
      let positive : 0 < s = omega arith in
      let q = (divided cs s e).quot in
      let t = (divided cs s e).rem in
      let d = divides s e positive sound in
      let k = sound-divided cs s e positive sound in
      value-reduced (r * s) (added (scaled a q) (scaled b t)) (mul-lt 0 0 r s (omega arith) positive)
      (sound-added (scaled a q) (scaled b t) (sound-scaled a q k.0) (sound-scaled b t k.1))
      ∙ ap (λ x. x % (r * s))
      (value-with a q (scaled b t) vs ∙ ap₂ (λ x y. a * x + y) d.quot (value-scaled b t vs ∙ ap (λ x. b * x) d.rem))

-- ---- each function

pub simplified_keeps : SimplifiedKeeps
simplified_keeps cs vs Same e h none sound range = refl
simplified_keeps cs vs (Always v) e h none sound range = refl
simplified_keeps cs vs (Line base by) e h none sound range =
    value-added (constant base) (scaled by e) vs ∙ ap (λ x. base + x) (value-scaled by e vs)
simplified_keeps cs vs (Strided r s) e h none sound range =
    let d = divides cs vs range s e (omega (arith, h.1)) sound in
    value-with r (divided cs s e).rem (divided cs s e).quot vs ∙ ap₂ (λ x y. r * x + y) d.rem d.quot ∙ omega arith
simplified_keeps cs vs (ThomasIn r s) e h none sound range = value-mixed cs vs range r s s r e h.0 h.1 sound
simplified_keeps cs vs (ThomasOut r s) e h none sound range =
    let a = divides cs vs range r e (omega (arith, h.0)) sound in
    let b = divides cs vs range s e (omega (arith, h.1)) sound in
    value-with s (divided cs r e).rem (divided cs s e).rem vs ∙ ap₂ (λ x y. s * x + y) a.rem b.rem ∙ omega arith
simplified_keeps cs vs (ThomasBack r s u v) e h none sound range =
    let turned : u * (value e vs / s) + v * (value e vs % s) ≡ value e vs / s * u + value e vs % s * v = omega arith in
    value-mixed cs vs range r s u v e h.0 h.1 sound ∙ ap (λ x. x % (r * s)) turned
simplified_keeps cs vs (Listed ks) e h none sound range = absurd none
simplified_keeps cs vs (Paired f c g w) e h none sound range =
    let positive : 0 < w = omega (arith, h.0) in
    let d = divides cs vs range w e positive sound in
    let k = sound-divided cs w e positive sound in
    let a = simplified_keeps cs vs f (divided cs w e).quot h.1 none.0 k.0 range ∙ ap (at f) d.quot in
    let b = simplified_keeps cs vs g (divided cs w e).rem h.2 none.1 k.1 range ∙ ap (at g) d.rem in
    value-with c (simplified cs f (divided cs w e).quot) (simplified cs g (divided cs w e).rem) vs
    ∙ ap₂ (λ x y. c * x + y) a b
    ∙ omega arith
simplified_keeps cs vs (After f g) e h none sound range =
    simplified_keeps cs vs f (simplified cs g e) h.0 none.0 (sound-simplified cs g e h.1 none.1 sound) range
    ∙ ap (at f) (simplified_keeps cs vs g e h.1 none.1 sound range)
