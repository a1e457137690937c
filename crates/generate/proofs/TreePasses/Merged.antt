-- The merged passes of a tree do what its request asks for, and a program can be made of them.
use Rattle.std.proofs.Common.{◌≡◌, ◌%◌, ap, ◌∙◌, sym, arith, List, ℕ}
use Rattle.matrix_meaning.specs.Valid.{IsValid}
use Rattle.matrix_meaning.specs.declared.Request.{Request}
use Rattle.sigma_lower.proofs.TreeLayouts.{trees_can_lower}
use Rattle.sigma_lower.specs.Merged.{sigma_of, tree_merged, whole_sigma}
use Rattle.sigma_spl.specs.Merged.{PlainMerged, merged_on}
use Rattle.sigma_spl.specs.Shared.Targets.{target_of}
use Rattle.sigma_spl.specs.Sigma.{PlainSigma, merged_of}
use Rattle.smp_rewrite.proofs.LayoutLemmas.Wholes.{forward_tree, wholes_do}
use Rattle.smp_rewrite.specs.Cut.{smp_of}
use Rattle.smp_rewrite.specs.Layout.Whole.{whole_of}
use Rattle.smp_rewrite.specs.Smp.{PlainSmp}
use Rattle.tree_model.proofs.WholeTrees.{forward_size}
use Rattle.tree_model.specs.Breakdown.{Breakdown, size_of}
use Rattle.tree_model.specs.Chosen.{IsWholeTree, StandsIn}
use Rattle.vec_rewrite.specs.Turning.{vec_of}
use Rattle.vec_rewrite.specs.Vectors.{PlainVec}
use Rattle.loop_merge.proofs.TreeMerge.{sigmas_merge_to_trees}
use Rattle.matrix_meaning.specs.Asked.{asked_of}
use Rattle.sigma_lower.proofs.CanMerge.{trees_can_merge}
use Rattle.sigma_lower.proofs.Sigmas.{sigma_transforms}
use Rattle.sigma_lower.proofs.TreeSigmas.Laws.{trees_are_sigmas}
use Rattle.sigma_spl.proofs.Phases.{sigma_merges}
use Rattle.spl_ast.specs.Meaning.{IsVector}
use Rattle.sigma_spl.specs.Trees.{IsMergedTree}

-- ---- from a tree to its merged passes

module _ (c : Request) (t : Breakdown) (valid : IsValid c) (h : IsWholeTree c t) where
  -- the whole tree stands in its request
  pub tree-stands : StandsIn c t
  tree-stands = (h.tree, ap (λ n. n % size_of t) (sym (forward_size c)) ∙ (forward_tree c t valid h).divides)

  module _ (blocks : PlainSmp) (vectors : PlainVec) (cut : blocks ≡ smp_of (target_of c) (whole_of c t))
      (turned : vectors ≡ vec_of blocks) where
    -- the terms of the formula for lanes are merged into the tree's passes
    pub tree-merges : (sigma : PlainSigma) (merged : PlainMerged) → sigma ≡ sigma_of vectors →
        merged ≡ merged_of sigma → merged ≡ tree_merged c t
    tree-merges sigma merged lowered made = made ∙ ap merged_of (lowered ∙ ap sigma_of (turned ∙ ap vec_of cut))

-- ---- the merged passes of a tree do what its request asks for, and a program can be made of them

module _ (c : Request) (t : Breakdown) (valid : IsValid c) (h : IsWholeTree c t) where
  pub trees_are_merged : IsMergedTree c t (tree_merged c t)
  trees_are_merged =
      sigmas_merge_to_trees (whole_sigma (target_of c) (whole_of c t))
      (trees_can_merge (target_of c) (whole_of c t) (trees_can_lower c t valid h)) c t (trees_are_sigmas c t valid h)

  pub trees_mean : (x : List ℕ) → IsVector c.modulus c.size x → merged_on c.modulus (tree_merged c t) x ≡ asked_of c x
  trees_mean x vector =
      let can = trees_can_lower c t valid h in
      let good = trees_can_merge (target_of c) (whole_of c t) can in
      let some = valid.in_range.modulus.0 in
      (sigma_merges (whole_sigma (target_of c) (whole_of c t)) good).meaning c.modulus x (omega (arith, some)) vector
      ∙ sigma_transforms (target_of c) (whole_of c t) x can vector
      ∙ wholes_do c t x valid h
