-- The sizes of a shared root's parts are dealt to processors and lanes in equal parts.
use Rattle.sigma_lower.proofs.Words.{◌≡◌, ℕ, ◌*◌, ◌/◌, ◌%◌, ◌<◌, ◌≤◌, arith, sym, ap, ◌∙◌, inl, inr, mul_comm, subst}
use Rattle.sigma_lower.proofs.Words.{cases_eq, Target, CanShareLayout, HasParts, Layout, IsWide, wide_from, wide_part}
use Rattle.smp_rewrite.proofs.Dealt as smp

-- p processors and v lanes have equal parts of k
abbrev pub IsDealt : ℕ → ℕ → ℕ → Type 0
IsDealt p v k = p * (v * (k / p / v)) ≡ k

-- one lane has all of u
lanes-wide : (v u : ℕ) → 1 ≤ v → (1 < v → IsWide v u) → IsWide v u
lanes-wide v u low wide =
    elim (cases_eq v 1) [
      | inl one ↦ let whole : u / v * v ≡ u = ap (λ w. u / w * w) one ∙ omega arith in sym whole
      | inr several ↦ wide (omega (arith, low, several))
    ]

-- equal parts of k for the processors, and of each for the lanes
in_parts : (p v k : ℕ) → p * (k / p) ≡ k → IsWide v (k / p) → IsDealt p v k
in_parts p v k parts wide = ap (λ n. p * n) (mul_comm v (k / p / v) ∙ sym wide) ∙ parts

-- a size that the processors' lines divide, and the vectors
pub dealt_part : (c : Target) (l : Layout) (k : ℕ) → CanShareLayout c l → (1 < c.procs → k % (c.procs * c.line) ≡ 0) →
    (1 < c.lanes → k % c.lanes ≡ 0) → IsDealt c.procs c.lanes k
dealt_part c l k h on_procs on_lanes =
    let p = c.procs in
    let v = c.lanes in
    let low : 1 ≤ p = h.procs in
    let lanes_low : 1 ≤ v = h.lanes in
    let line_low : 1 ≤ c.line = h.line in
    elim (cases_eq p 1) [
      | inl one ↦
          let all : k / p ≡ k = ap (λ w. k / w) one ∙ omega arith in
          let parts : p * (k / p) ≡ k = ap (λ w. w * (k / w)) one ∙ omega arith in
          in_parts p v k parts (lanes-wide v (k / p) lanes_low (λ several. subst (IsWide v) (sym all) (wide_from v k (on_lanes several))))
      | inr many ↦
          let several : 1 < p = omega (arith, low, many) in
          let dealt : smp.IsDealt p c.line k = smp.is_dealt p c.line k (omega (arith, several)) (omega (arith, line_low)) (on_procs several) in
          in_parts p v k (sym dealt.parts) (lanes-wide v (k / p) lanes_low (λ lanes. wide_part v c.line (k / p) dealt.lines (h.in_line several)))
    ]

pub dealt_parts : (c : Target) (l : Layout) (r s : ℕ) → CanShareLayout c l → HasParts c r s →
    IsDealt c.procs c.lanes r × IsDealt c.procs c.lanes s
dealt_parts c l r s h fits =
    (dealt_part c l r h (λ several. (fits.procs several).0) (λ several. (fits.lanes several).0), dealt_part c l s h (λ several. (fits.procs several).1) (λ several. (fits.lanes several).1))
