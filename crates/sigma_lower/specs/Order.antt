-- The order of a tree's terms.
use Rattle.std.specs.Prelude.{List, [], ◌∷◌}
use Rattle.operators.specs.declared.target.Target.{Target}
use Rattle.sigma_lower.specs.Machine.{IsMachine}
use Rattle.sigma_spl.specs.Loops.{begun, looped, InOrder}
use Rattle.sigma_lower.specs.Shared.{phase_term}
use Rattle.sigma_lower.specs.TreeTerms.Term.{PlainTerm, lowered_of}
use Rattle.std.specs.Prelude.{◌≡◌}
use Rattle.smp_rewrite.specs.Fits.{CanShareLayout}
use Rattle.smp_rewrite.specs.Layout.Tree.{Layout, IsGoodLayout}

-- the terms of a phase are in order, and at its end none waits
pub record IsOrderedPhase (h : Target) (ts : List PlainTerm) : Type 0 where
  pub in_order : InOrder begun (phase_term ts)
  pub none_waits : (looped begun (phase_term ts)).waiting ≡ []

abbrev pub AllOrdered : Target → List (List PlainTerm) → Type 0
AllOrdered h [] = Unit {0}
AllOrdered h (ts ∷ more) = IsOrderedPhase h ts × AllOrdered h more

abbrev pub TreesOrdered : Type 0
TreesOrdered =
    (h : Target) (l : Layout) → IsMachine h → CanShareLayout h l → IsGoodLayout h.modulus l →
    AllOrdered h (lowered_of h l)
