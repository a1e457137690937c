-- The steps of a layout have its operations.
use Rattle.std.proofs.Common.{◌≡◌, ℕ, ◌+◌, ◌*◌, List, [], ◌∷◌, ◌++◌, ap, ◌∙◌, arith}
use Rattle.smp_rewrite.specs.Layout.Tree.{work, by, layout_size, rule_cost, layout_cost}
use Rattle.smp_rewrite.specs.Layout.Meaning.{StepsCost}
use Rattle.smp_rewrite.specs.Layout.Step.{PlainStep, step, thomas_out, twiddles, rule_steps, steps_of}
use Rattle.smp_rewrite.specs.Layout.Step.{operations_in}
use Rattle.operators.specs.Paths.Tensors.{Path, copies_of}
use Rattle.operators.specs.declared.paths.Tensor.TheVariants.{Blocks, Columns}
use Rattle.operators.proofs.PathLemmas.Under.{copies_of-push}
use Rattle.tree_model.specs.declared.tree.Rule.{Rule}
use Rattle.tree_model.specs.declared.tree.Rule.TheVariants.{Gt, Ct, Split, Dim}

module _ (weight m : ℕ) where
  operations_in-append : (ss ts : List PlainStep) → operations_in weight m (ss ++ ts) ≡ operations_in weight m ss
      + operations_in weight m ts
  operations_in-append [] ts = omega arith
  operations_in-append (s ∷ ss) ts = let rest = operations_in-append ss ts in omega (arith, rest)

  rule_operations : (rule : Rule) (path : Path) (r s w : ℕ) (left right : List PlainStep) →
      operations_in weight m (rule_steps rule path r s w left right) ≡ operations_in weight m left
      + operations_in weight m right + copies_of path * rule_cost weight rule (r * s)
  rule_operations Gt path r s w left right =
      let one = operations_in-append right (left ++ step path (thomas_out r s) ∷ []) in
      let two = operations_in-append left (step path (thomas_out r s) ∷ []) in omega (arith, one, two)
  rule_operations Ct path r s w left right =
      let one = operations_in-append right (step path (twiddles r s w) ∷ left) in omega (arith, one)
  rule_operations Split path r s w left right = let one = operations_in-append right left in omega (arith, one)
  rule_operations Dim path r s w left right = let one = operations_in-append right left in omega (arith, one)

pub steps_cost : StepsCost
steps_cost weight m path (work w) = omega arith
steps_cost weight m path (by rule root a b) =
    let r = layout_size a in
    let s = layout_size b in
    let x = layout_cost weight m a in
    let y = layout_cost weight m b in
    let parts = rule_operations weight m rule path r s root (steps_of (path ++ Columns s ∷ []) a) (steps_of (path ++ Blocks r ∷ []) b) in
    let left : operations_in weight m (steps_of (path ++ Columns s ∷ []) a) ≡ copies_of path * s * x = steps_cost weight m (path ++ Columns s ∷ []) a ∙ ap (λ n. n * x) (copies_of-push path (Columns s)) in
    let right : operations_in weight m (steps_of (path ++ Blocks r ∷ []) b) ≡ copies_of path * r * y = steps_cost weight m (path ++ Blocks r ∷ []) b ∙ ap (λ n. n * y) (copies_of-push path (Blocks r)) in
    omega (arith, parts, left, right)
