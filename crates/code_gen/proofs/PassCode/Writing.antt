-- How an expression is written, part by part.
use Rattle.std.proofs.Common.{◌≡◌, ℕ, suc, ◌+◌, ◌-◌, ◌<◌, Bool, true, false, arith, refl, sym, ap, ap₂, ◌∙◌}
use Rattle.std.proofs.Common.{if◌then◌else◌, ◌==◌}
use Rattle.std.proofs.lemmas.Bool.Decides.{nat_tests}
use Rattle.icode.specs.Plain.{PlainParts, AndParts, Var}
use Rattle.perm_algebra.specs.Affine.{Sum, variable}
use Rattle.sigma_spl.specs.Shared.Machine.{PlainFrame}
use Rattle.code_gen.specs.PassCode.Expressions.{factor_at, variables_of}

-- what holds of a number that is 0 and of one that is not
pub by_zero : (n : ℕ) (P : Bool → Type 0) → (n ≡ 0 → P true) → (0 < n → P false) → P (n == 0)
by_zero n P none some = pick (n == 0) refl
  where
    pick : (b : Bool) → (n == 0) ≡ b → P b
    pick true e = none (grind (arith, nat_tests, e))
    pick false e = some (grind (arith, nat_tests, e))

-- a variable's parts, where its number is met and where it is not
pub factor-same : (d e f : ℕ) (rest : Sum) → d ≡ e → factor_at d (variable f e rest) ≡ f + factor_at d rest
factor-same d e f rest same = grind (arith, nat_tests)

pub factor-other : (d e f : ℕ) (rest : Sum) → (d ≡ e → ⊥) → factor_at d (variable f e rest) ≡ factor_at d rest
factor-other d e f rest other = grind (arith, nat_tests)

-- one variable before those after it
pub one-variable : (f : PlainFrame) (n d : ℕ) (e : Sum) (ps : PlainParts) → d < n →
    variables_of f (n - d) d e ps
    ≡ (if factor_at (f.first_loop + d) e == 0 then variables_of f (n - (d + 1))
    (d + 1) e ps else AndParts (Var d (factor_at (f.first_loop + d) e)) (variables_of f (n - (d + 1)) (d + 1) e ps))
one-variable f n d e ps h =
    let more : n - d ≡ suc (n - (d + 1)) = omega arith in
    ap (λ k. variables_of f k d e ps) more

pub next-variable : (f : PlainFrame) (n last d g : ℕ) (e : Sum) (ps olds news : PlainParts) → last ≡ d + 1 → d < n →
    g ≡ factor_at (f.first_loop + d) e → olds ≡ variables_of f (n - last) last e ps →
    news ≡ (if g == 0 then olds else AndParts (Var d g) olds) → news ≡ variables_of f (n - d) d e ps
next-variable f n last d g e ps olds news next h factor is made =
    made
    ∙ ap₂ (λ x y. if x == 0 then y else AndParts (Var d x) y) factor (is ∙ ap (λ k. variables_of f (n - k) k e ps) next)
    ∙ sym (one-variable f n d e ps h)
