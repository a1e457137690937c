-- The terms of a tree that its request admits.
use Rattle.matrix_meaning.specs.declared.Request.{Request}
use Rattle.matrix_meaning.specs.Valid.{IsValid}
use Rattle.sigma_spl.specs.Shared.Targets.{target_of}
use Rattle.sigma_spl.specs.Trees.{IsTreeSigma}
use Rattle.smp_rewrite.specs.Layout.Whole.{whole_of}
use Rattle.tree_model.specs.Breakdown.{Breakdown}
use Rattle.tree_model.specs.Chosen.{IsWholeTree}
use Rattle.sigma_lower.specs.Merged.{whole_sigma}

-- the terms of a tree's formula for lanes are a tree's
abbrev pub TreesAreSigmas : Type 0
TreesAreSigmas =
    (c : Request) (t : Breakdown) → IsValid c → IsWholeTree c t →
    IsTreeSigma c t (whole_sigma (target_of c) (whole_of c t))
