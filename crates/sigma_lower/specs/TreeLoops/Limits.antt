-- No place of a layout's loops is over a limit of programs.
use Rattle.std.specs.Prelude.{List, [], ◌∷◌}
use Rattle.sigma_lower.specs.Machine.{IsMachine}
use Rattle.sigma_lower.specs.Shared.{phase_term}
use Rattle.sigma_spl.specs.Loops.{loops_in, AreLimitedLoops}
use Rattle.sigma_spl.specs.Merge.{most}
use Rattle.sigma_lower.specs.TreeTerms.Term.{PlainTerm, lowered_of}
use Rattle.smp_rewrite.specs.Fits.{CanShareLayout}
use Rattle.smp_rewrite.specs.Layout.Tree.{Layout, IsGoodLayout}
use Rattle.operators.specs.declared.target.Target.{Target}

abbrev pub AreLimitedPhases : Target → List (List PlainTerm) → Type 0
AreLimitedPhases h [] = Unit {0}
AreLimitedPhases h (ts ∷ more) = AreLimitedLoops (most 64) h.size (loops_in (phase_term ts)) × AreLimitedPhases h more

abbrev pub LoopsAreLimited : Type 0
LoopsAreLimited =
    (h : Target) (l : Layout) → IsMachine h → CanShareLayout h l → IsGoodLayout h.modulus l →
    AreLimitedPhases h (lowered_of h l)
