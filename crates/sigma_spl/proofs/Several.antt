-- Paths each of whose tensors has several copies.
use Rattle.std.proofs.Common.{◌≡◌, ◌<◌, ◌≤◌, ℕ, [], ◌∷◌, ◌++◌, arith, inl, inr, subst, sym}
use Rattle.std.proofs.lemmas.Bool.{cases_eq}
use Rattle.std.proofs.lemmas.Bool.Decides.{nat_tests}
use Rattle.sigma_spl.specs.Limits.{AreSeveral}
use Rattle.sigma_spl.specs.Merge.{one_loop}
use Rattle.operators.specs.declared.paths.Tensor.{Tensor}
use Rattle.operators.specs.declared.paths.Tensor.TheVariants.{Blocks}
use Rattle.operators.specs.Paths.Tensors.{Path, count_of}

pub several-append : (path more : Path) → AreSeveral path → AreSeveral more → AreSeveral (path ++ more)
several-append [] more h k = k
several-append (t ∷ path) more h k = (h.0, several-append path more h.1 k)

pub several-push : (path : Path) (t : Tensor) → AreSeveral path → 2 ≤ count_of t → AreSeveral (path ++ t ∷ [])
several-push path t h two = several-append path (t ∷ []) h (two, tt)

-- the loop over n words, where there are any
pub loop_several : (n : ℕ) → 0 < n → AreSeveral (one_loop n)
loop_several n some =
    elim (cases_eq n 1) [
      | inl one ↦ let is : one_loop n ≡ [] = grind (arith, nat_tests) in subst AreSeveral (sym is) tt
      | inr several ↦ let is : one_loop n ≡ Blocks n ∷ [] = grind (arith, nat_tests) in
          subst AreSeveral (sym is) (omega (arith, some, several), tt)
    ]
