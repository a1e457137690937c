-- A diagonal that repeats one factor.
use Rattle.std.proofs.Common.{◌≡◌, ℕ, ◌<◌, subst, Option, Some}
use Rattle.sigma_spl.specs.Shared.Running.{HasResidues}
use Rattle.operators.specs.declared.target.Target.{Target}
use Rattle.code_gen.specs.PassCode.Statements.{one_factor}
use Rattle.sigma_spl.specs.Nest.{PlainFactors, repeated, spread, PlainMultiplier, PlainNest, factor_at}

-- each factor is the one
pub one-factor : (m : ℕ) (factors : PlainFactors) (value : ℕ) → one_factor factors ≡ Some value → (i : ℕ) →
    factor_at m factors i ≡ value
one-factor m (repeated v n) value is i = (cc)
one-factor m (spread path factors) value is i = one-factor m factors value is _
one-factor m _ value is i = absurd (cc)

-- it is a residue
abbrev pub OneIsBelow : ℕ → Option PlainMultiplier → Type 0
OneIsBelow m o = (d : PlainMultiplier) (value : ℕ) → o ≡ Some d → one_factor d.factors ≡ Some value → value < m

pub one-below : (c : Target) (z : PlainNest) → HasResidues c z → OneIsBelow c.modulus z.multiplier
one-below c z residues d value is one = subst (λ n. n < c.modulus) (one-factor c.modulus d.factors value one 0) (residues d is 0)
