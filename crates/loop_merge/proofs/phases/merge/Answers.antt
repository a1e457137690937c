use Rattle.std.proofs.Common.{◌≡◌, ap, subst, sym}
use Rattle.loop_merge.proofs.PlainPasses.{formula_merges}
use Rattle.loop_merge.proofs.TreeMerge.{sigmas_merge_to_trees}
use Rattle.loop_merge.proofs.Whole.{is_merge, merged_from}
use Rattle.loop_merge.proofs.phases.merge.Goals as goal
use Rattle.loop_merge.specs.Views.{plain_phases}
use Rattle.sigma_spl.specs.Formula.{size_of}
use Rattle.sigma_spl.specs.Merged.{PlainMerged}
use Rattle.sigma_spl.specs.Shared.Machine.{plain_machine}
use Rattle.sigma_spl.specs.Shared.Ready.{IsReady}
use Rattle.sigma_spl.specs.Sigma.{IsMergeOf, merged_of}
use Rattle.sigma_spl.specs.Trees.{IsMergedTree}
use Rattle.sigma_spl.specs.Views.{plain_sigma}

-- the passes are those of the terms
abbrev passes : goal.In_ok-phases → PlainMerged
passes c = merged_from (plain_sigma c.args.sigma) (plain_phases c.in_ok-phases.phases.items)

is-merged : (c : goal.In_ok-phases) → passes c ≡ merged_of (plain_sigma c.args.sigma)
is-merged c = ap (merged_from (plain_sigma c.args.sigma)) c.in_ok-phases.ensures

keeps : (c : goal.In_ok-phases) → IsMergeOf (plain_sigma c.args.sigma) (passes c)
keeps c = is_merge (plain_sigma c.args.sigma) (passes c) c.requires (is-merged c)

pub returns-clause-meaning : goal.returns-clause-meaning
returns-clause-meaning c = (keeps c).meaning

pub returns-clause-operations : goal.returns-clause-operations
returns-clause-operations c = (keeps c).operations

pub returns-clause-once : goal.returns-clause-once
returns-clause-once c = (keeps c).phases

pub returns-clause-tree : goal.returns-clause-tree
returns-clause-tree c = λ r t tree.
    subst (IsMergedTree r t) (sym (is-merged c)) (sigmas_merge_to_trees (plain_sigma c.args.sigma) c.requires r t tree)

pub returns-clause-formula : goal.returns-clause-formula
returns-clause-formula c = λ m f is.
    subst (IsReady (plain_machine (size_of f) m)) (sym (is-merged c)) (formula_merges m f (plain_sigma c.args.sigma) is)
