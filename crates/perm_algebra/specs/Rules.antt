-- The steps of simplification, each with its law.
use Rattle.std.specs.Prelude.{◌≡◌, ℕ, ◌+◌, ◌*◌, ◌/◌, ◌%◌, ◌<◌}
use Rattle.index_fn.specs.Mapping.{Mapping, Paired, After, at}
use Rattle.perm_algebra.specs.Affine.{Sum, constant, remainder, quotient, value, top, scaled, added, head, rest_of}
use Rattle.perm_algebra.specs.Affine.{mods, IsSound, AreBelowCounts}
use Rattle.perm_algebra.specs.declared.IndexRule.{IndexRule}
use Rattle.perm_algebra.specs.declared.IndexRule.TheVariants.{Scale, Add, TakeMultiples, ReadOff, WriteOut}
use Rattle.perm_algebra.specs.declared.IndexRule.TheVariants.{ReduceFactors, DropRemainder, SplitTensor, NestComposed}

abbrev pub Holds : IndexRule → Type 0
Holds Scale = (k : ℕ) (e : Sum) (vs : ℕ → ℕ) → value (scaled k e) vs ≡ k * value e vs
Holds Add = (a e : Sum) (vs : ℕ → ℕ) → value (added a e) vs ≡ value a vs + value e vs
Holds TakeMultiples = (s : ℕ) (e : Sum) (vs : ℕ → ℕ) → value e vs ≡ s * value (head s e) vs + value (rest_of s e) vs
Holds ReadOff =
    (cs vs : ℕ → ℕ) (s : ℕ) (e : Sum) → IsSound e → AreBelowCounts vs cs → top (rest_of s e) cs < s →
    (value (head s e) vs ≡ value e vs / s) × (value (rest_of s e) vs ≡ value e vs % s)
Holds WriteOut =
    (s : ℕ) (e : Sum) (vs : ℕ → ℕ) →
    (value (quotient 1 e s (constant 0)) vs ≡ value e vs / s)
    × (value (remainder 1 e s (constant 0)) vs ≡ value e vs % s)
Holds ReduceFactors = (n : ℕ) (e : Sum) (vs : ℕ → ℕ) → value (mods n e) vs % n ≡ value e vs % n
Holds DropRemainder =
    (cs vs : ℕ → ℕ) (n : ℕ) (e : Sum) → IsSound e → AreBelowCounts vs cs → top (mods n e) cs < n →
    value (mods n e) vs ≡ value e vs % n
Holds SplitTensor =
    (f : Mapping) (c : ℕ) (g : Mapping) (d i j : ℕ) → j < d → at (Paired f c g d) (d * i + j) ≡ c * at f i + at g j
Holds NestComposed = (f g : Mapping) (i : ℕ) → at (After f g) i ≡ at f (at g i)
