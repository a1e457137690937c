-- What simplification adds to a sum that a divisor takes apart.
use Rattle.std.specs.Prelude.{◌≡◌, ℕ, ◌+◌, ◌*◌, ◌<◌, ◌≤◌, ◌⊎◌}
use Rattle.index_fn.specs.Mapping.{Mapping, Strided, ThomasIn, ThomasBack, Paired}
use Rattle.perm_algebra.specs.Affine.{Sum, constant, variable, remainder, quotient, top, scaled, added, head, rest_of}
use Rattle.perm_algebra.specs.Affine.{simplified, AreBelow}

-- q for each quotient and r for each remainder, at all levels
abbrev pub tally : ℕ → ℕ → Sum → ℕ
tally q r (constant c) = 0
tally q r (variable f d rest) = tally q r rest
tally q r (remainder f of m rest) = r + tally q r of + tally q r rest
tally q r (quotient f of m rest) = q + tally q r of + tally q r rest

-- no more quotients than before, and at most `more` more remainders
pub record AddsRemainders (more : ℕ) (before after : Sum) : Type 0 where
  pub quotients : tally 1 0 after ≤ tally 1 0 before
  pub remainders : tally 0 1 after ≤ more + tally 0 1 before

-- a sum whose constant and factors are below n, or the remainder by n of such a sum
pub record IsModulo (n : ℕ) (e : Sum) : Type 0 where
  pub inner : Sum
  pub below : AreBelow n inner
  pub is : (e ≡ inner) ⊎ (e ≡ remainder 1 inner n (constant 0))

pub record KeepsShape (cs : ℕ → ℕ) (r s : ℕ) (e : Sum) : Type 0 where
  pub turn : AddsRemainders 0 e (simplified cs (Strided r s) e)
  pub thomas_in : AddsRemainders 1 e (simplified cs (ThomasIn r s) e)
      × IsModulo (r * s) (simplified cs (ThomasIn r s) e)
  pub thomas_back : (u v : ℕ) →
      AddsRemainders 1 e (simplified cs (ThomasBack r s u v) e)
      × IsModulo (r * s) (simplified cs (ThomasBack r s u v) e)
  pub tensor : (f : Mapping) (c : ℕ) (g : Mapping) →
      simplified cs (Paired f c g s) e ≡ added (scaled c (simplified cs f (head s e))) (simplified cs g (rest_of s e))

-- A multiple of s and a rest that stays below s: a stride permutation and a tensor add no quotient and no remainder,
-- the places before a step by the factors r and s, and back from it, add at most one remainder
abbrev pub ShapeKept : Type 0
ShapeKept =
    (cs : ℕ → ℕ) (r s : ℕ) (a rest : Sum) → 0 < r → 0 < s → top rest cs < s →
    KeepsShape cs r s (added (scaled s a) rest)
