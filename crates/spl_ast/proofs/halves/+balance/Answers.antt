use Rattle.std.proofs.Common.{◌≡◌, [], ◌∷◌, ◌++◌, ◌∙◌, sym, ap, subst, arith}
use Rattle.std.specs.List.{flat_map}
use Rattle.std.proofs.lemmas.List.Elements.{All-append, All-cons, All-nil}
use Rattle.spl_ast.specs.Halves.Depth.{IsSummand}
use Rattle.spl_ast.specs.Halves.Balanced.{balanced_summands}
use Rattle.spl_ast.specs.Halves.Rows.{rows_of}
use Rattle.spl_ast.specs.Halves.Summands.{summands}
use Rattle.spl_ast.proofs.HalvesLemmas.Depths.{leaf_summand}
use Rattle.spl_ast.proofs.HalvesLemmas.Balanced.{all_halved, leaf_alone}
use Rattle.spl_ast.proofs.HalvesLemmas.Lists.{all_taken, rows_more, summands_more}
use Rattle.spl_ast.proofs.HalvesLemmas.Sums.{same_matrix}
use Rattle.spl_ast.specs.Shape.{IsShaped}
use Rattle.spl_ast.proofs.Vectors.{size_is_size}
use Rattle.spl_ast.proofs.halves.+balance.Goals as goal

pub add_summands-returns-in_ok-push-in_default : goal.add_summands-returns-in_ok-push-in_default
add_summands-returns-in_ok-push-in_default t c =
    let is : c.push-in_default.new.self.items ≡ c.args.parts.now.items ++ c.args.formula ∷ [] =
    c.in_ok-push-in_default.ensures.items ∙ ap (λ f. c.args.parts.now.items ++ f ∷ []) c.formula.view_is in
    let leaf : IsSummand c.args.formula =
    subst IsSummand c.formula.view_is
    (leaf_summand c.formula.inside.node c.in_default.not-Compose c.in_default.not-TensorLeft c.in_default.not-TensorRight c.in_default.not-DirectSum c.in_default.not-Todo) in
    let alone : balanced_summands c.args.formula ≡ c.args.formula ∷ [] =
    subst (λ f. balanced_summands f ≡ f ∷ []) c.formula.view_is
    (leaf_alone c.formula.inside.node c.in_default.not-Compose c.in_default.not-TensorLeft c.in_default.not-TensorRight c.in_default.not-DirectSum c.in_default.not-Todo) in
    record {
      apart = rw is (All-append IsSummand c.args.parts.now.items (c.args.formula ∷ []) c.requires.apart (All-cons IsSummand c.args.formula [] leaf (All-nil IsSummand)));
      summands = rw is (summands_more c.args.parts.now.items c.args.formula);
      rows = rw is (rows_more c.args.parts.now.items c.args.formula);
      items = is ∙ ap (λ fs. c.args.parts.now.items ++ fs) (sym alone);
      more = omega (arith, c.in_ok-push-in_default.ensures.len);
    }

pub balance-take_sum-requires-clause-rows : goal.balance-take_sum-requires-clause-rows
balance-take_sum-requires-clause-rows t c =
    let size = size_is_size c.args.formula (subst IsShaped c.formula.view_is c.formula.invariant) in
    omega (arith, c.in_ok-add_summands.ensures.rows, ap rows_of c.new-parts.ensures.items, size.1)

pub balance-returns-clause-same : goal.balance-returns-clause-same
balance-returns-clause-same t c m =
    same_matrix m c.args.formula c.in_ok-sum.sum
    (subst IsShaped c.formula.view_is c.formula.invariant)
    (subst IsShaped c.sum.view_is c.sum.invariant)
    (all_taken c.add_summands.new.parts.items c.take_sum.new.parts.items c.args.formula c.in_ok-sum.sum
    (omega (arith, c.in_ok-sum.ensures.taken))
    (c.in_ok-add_summands.ensures.summands ∙ ap (λ fs. flat_map summands fs ++ summands c.args.formula) c.new-parts.ensures.items)
    c.in_ok-sum.ensures.summands)

pub balance-returns-clause-halves : goal.balance-returns-clause-halves
balance-returns-clause-halves t c =
    all_halved c.add_summands.new.parts.items c.take_sum.new.parts.items c.args.formula c.in_ok-sum.sum c.len-count.result
    (c.in_ok-add_summands.ensures.items ∙ ap (λ fs. fs ++ balanced_summands c.args.formula) c.new-parts.ensures.items)
    (omega (arith, c.len-count.ensures))
    (omega (arith, c.in_ok-sum.ensures.taken))
    c.in_ok-sum.ensures.halves
