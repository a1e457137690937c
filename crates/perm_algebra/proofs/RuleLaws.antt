-- Each step's law.
use Rattle.std.proofs.Common.{◌≡◌, ℕ, ◌+◌, ◌*◌, ◌/◌, ◌%◌, ◌<◌, arith, refl, sym, ap, ap₂, ◌∙◌, mod-eq_of_lt}
use Rattle.std.proofs.lemmas.Nat.{div-mul-add, mod-mul-add}
use Rattle.index_fn.specs.Mapping.{at}
use Rattle.perm_algebra.specs.Affine.{Sum, value, top, mods, IsSound, AreBelowCounts}
use Rattle.perm_algebra.specs.declared.IndexRule.{IndexRule}
use Rattle.perm_algebra.specs.declared.IndexRule.TheVariants.{Scale, Add, TakeMultiples, ReadOff, WriteOut}
use Rattle.perm_algebra.specs.declared.IndexRule.TheVariants.{ReduceFactors, DropRemainder, SplitTensor, NestComposed}
use Rattle.perm_algebra.specs.Rules.{Holds}
use Rattle.perm_algebra.proofs.AffineLaws.{value-scaled, value-added, value-divided, value-le-top, reads-off}
use Rattle.perm_algebra.proofs.Kept.{sound-mods}
use Rattle.perm_algebra.proofs.Reduced.{value-mods}

dropped : (cs vs : ℕ → ℕ) (n : ℕ) (e : Sum) → IsSound e → AreBelowCounts vs cs → top (mods n e) cs < n →
    value (mods n e) vs ≡ value e vs % n
dropped cs vs n e sound range small =
    let below : value (mods n e) vs < n = omega (arith, value-le-top (mods n e) vs cs (sound-mods n e sound) range) in
    sym (mod-eq_of_lt below) ∙ value-mods n e vs

split_tensor : (f : ℕ → ℕ) (c : ℕ) (g : ℕ → ℕ) (d i j : ℕ) → j < d →
    f ((d * i + j) / d) * c + g ((d * i + j) % d) ≡ c * f i + g j
split_tensor f c g d i j below =
    let place : d * i + j ≡ i * d + j = omega arith in
    ap₂ (λ a b. f a * c + g b) (ap (λ n. n / d) place ∙ div-mul-add i d j below) (ap (λ n. n % d) place ∙ mod-mul-add i d j below) ∙ omega arith

pub holds : (rule : IndexRule) → Holds rule
holds Scale = value-scaled
holds Add = value-added
holds TakeMultiples = value-divided
holds ReadOff = λ cs vs s e sound range small. let off = reads-off s e vs cs sound range small in (sym off.quot, sym off.rem)
holds WriteOut = λ s e vs. (omega arith, omega arith)
holds ReduceFactors = value-mods
holds DropRemainder = dropped
holds SplitTensor = λ f c g d i j below. split_tensor (at f) c (at g) d i j below
holds NestComposed = λ f g i. refl
