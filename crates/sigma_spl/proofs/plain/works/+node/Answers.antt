use Rattle.std.proofs.Common.{◌≡◌, ◌∙◌, refl, sym, ap, ap₂, arith}
use Rattle.matrix_meaning.specs.declared.Request.{Request}
use Rattle.operators.specs.Operator.{on_blocks}
use Rattle.tree_model.specs.Breakdown.{breakdown_of, size_of}
use Rattle.tree_model.specs.Trees.{trees_on}
use Rattle.tree_model.specs.Whole.{rooted_of}
use Rattle.tree_model.specs.declared.tree.Tree.{Tree}
use Rattle.tree_model.proofs.RootedTrees.{rooted_size}
use Rattle.sigma_spl.proofs.PlainLemmas.Copies.{rooted_sized}
use Rattle.sigma_spl.proofs.PlainLemmas.Steps.{one_block}
use Rattle.sigma_spl.proofs.PlainLemmas.Vectors.{node_rows, node_columns}
use Rattle.sigma_spl.proofs.plain.works.+node.Goals as goal

pub on_rows-loop-i-preserved : goal.on_rows-loop-i-preserved
on_rows-loop-i-preserved t c =
    let tree = breakdown_of c.args.tree.now in
    let op = trees_on c.args.m.now (rooted_of c.args.p.now tree) in
    one_block c.args.count (size_of tree) c.loop-i.i c.size-size.result _ _ op c.args.x.now _ _ _ (rooted_sized c.args.m.now c.args.p.now tree) c.size-size.ensures refl refl
    c.loop-i-test.true c.requires.vector.size c.loop-i.invariant (c.deref.ensures.value ∙ c.in_ok-part.ensures) c.in_ok-extend_from_slice.ensures.items

pub on_rows-returns : goal.on_rows-returns
on_rows-returns t c =
    let all : c.loop-i.i ≡ c.args.count = omega arith in
    let tree = breakdown_of c.args.tree.now in
    c.loop-i.invariant
    ∙ ap₂ (λ i s. on_blocks i s (trees_on c.args.m.now (rooted_of c.args.p.now tree)) c.args.x.now) all
    (c.size-size.ensures ∙ sym (rooted_size c.args.p.now tree))

pub node_times-on_each_column-requires-clause-vector : goal.node_times-on_each_column-requires-clause-vector
node_times-on_each_column-requires-clause-vector t c =
    node_rows c.args.m.now c.args.p.now c.first_and_rest-first.result.1 (breakdown_of c.args.tree.now) (breakdown_of c.in-Dim.a.value) (breakdown_of c.in-Dim.b.value)
    (ap breakdown_of c.in-Dim.is) c.size.result c.size-in-Dim.result
    (c.size.ensures ∙ ap (λ (u : Tree). size_of (breakdown_of u)) c.deref.ensures)
    (c.size-in-Dim.ensures ∙ ap (λ (u : Tree). size_of (breakdown_of u)) c.deref-in-Dim-2.ensures)
    c.args.x.now c.in_ok-rows-in-Dim.rows.items c.deref-in-Dim-3.result.now
    (rw c.deref-in-Dim.ensures at c.in_ok-rows-in-Dim.ensures) c.deref-in-Dim-3.ensures.value c.requires.vector

pub node_times-returns-in_ok-y-in-Dim : goal.node_times-returns-in_ok-y-in-Dim
node_times-returns-in_ok-y-in-Dim t c =
    node_columns c.args.m.now c.args.p.now c.first_and_rest-first.result.1 (breakdown_of c.args.tree.now) (breakdown_of c.in-Dim.a.value) (breakdown_of c.in-Dim.b.value)
    (ap breakdown_of c.in-Dim.is) c.size.result c.size-in-Dim.result
    (c.size.ensures ∙ ap (λ (u : Tree). size_of (breakdown_of u)) c.deref.ensures)
    (c.size-in-Dim.ensures ∙ ap (λ (u : Tree). size_of (breakdown_of u)) c.deref-in-Dim-2.ensures)
    c.args.x.now c.in_ok-rows-in-Dim.rows.items c.deref-in-Dim-3.result.now
    (rw c.deref-in-Dim.ensures at c.in_ok-rows-in-Dim.ensures) c.deref-in-Dim-3.ensures.value
    c.request.result.root c.in_ok-y-in-Dim.y.items
    (ap (λ (q : Request). q.root) (c.request.ensures.value ∙ c.first_and_rest-first.ensures.first))
    c.first_and_rest-first.ensures.rest c.in_ok-y-in-Dim.ensures
