use Rattle.std.proofs.Common.{◌≡◌, ◌∙◌, ap, refl, arith}
use Rattle.operators.specs.Operator.{on_blocks}
use Rattle.sigma_spl.specs.Plain.Copies.{alone}
use Rattle.tree_model.specs.Trees.{trees_on, trees_size}
use Rattle.sigma_spl.proofs.PlainLemmas.Copies.{trees_sized}
use Rattle.sigma_spl.proofs.PlainLemmas.Steps.{one_block}
use Rattle.sigma_spl.proofs.plain.works.on_each_row.Goals as goal

pub loop-i-preserved : goal.loop-i-preserved
loop-i-preserved c =
    let tree = alone c.args.tree.now in
    one_block c.args.count (trees_size tree) c.loop-i.i (trees_size tree) _ _ (trees_on c.args.m.now tree) c.args.x.now _ _ _ (trees_sized c.args.m.now tree) refl refl refl
    c.loop-i-test.true c.requires.vector.size c.loop-i.invariant (c.deref.ensures.value ∙ c.in_ok-part.ensures) c.in_ok-extend_from_slice.ensures.items

pub returns : goal.returns
returns c =
    let all : c.loop-i.i ≡ c.args.count = omega arith in
    c.loop-i.invariant ∙ ap (λ i. on_blocks i (trees_size (alone c.args.tree.now)) (trees_on c.args.m.now (alone c.args.tree.now)) c.args.x.now) all
