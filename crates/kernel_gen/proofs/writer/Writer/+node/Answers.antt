use Rattle.std.proofs.Common.{◌≡◌, ℕ, ◌++◌, arith, refl, sym, ap, ap₂, ◌∙◌, subst}
use Rattle.std.proofs.lemmas.Nat.{row_fits}
use Rattle.operators.proofs.Places.{between-block}
use Rattle.kernel_gen.specs.Kernel.{trees_make}
use Rattle.kernel_gen.proofs.Parts.{wrote_tensor}
use Rattle.kernel_gen.proofs.Writes.{wrote-row}
use Rattle.kernel_gen.proofs.writer.Writer.+node.Goals as goal
use Rattle.matrix_meaning.specs.declared.Kind.TheVariants.{Dft}
use Rattle.matrix_meaning.specs.declared.Request.{Request}
use Rattle.kernel_gen.specs.Writing.{Wrote}
use Rattle.matrix_meaning.specs.Parts.{first_of, rest_of}
use Rattle.tree_model.specs.Breakdown.{Breakdown, breakdown_of, leaf, node, size_of}
use Rattle.tree_model.specs.declared.tree.Rule.TheVariants.{Gt, Ct, Split}
use Rattle.tree_model.specs.declared.tree.Tree.{Tree}
use Rattle.tree_model.specs.Trees.{tensor}
use Rattle.tree_model.specs.Whole.{rooted_of, rooted_one}
use Rattle.tree_model.proofs.RootedTrees.{rooted_size}

pub put_node_in_rows-loop-i-preserved : goal.put_node_in_rows-loop-i-preserved
put_node_in_rows-loop-i-preserved t c = (
  wrote-row c.args.self.now c.loop-i.self c.put_node.new.self (λ _. trees_make c.args.m.now (rooted_of c.args.p.now (breakdown_of c.args.tree.now)))
      c.loop-i.i c.args.grid.columns c.args.ins.now c.loop-i.outs.items _ c.in_ok-row.row.items _
      c.loop-i.invariant.0
      (between-block c.args.grid.columns c.loop-i.i c.args.ins.now _ _ refl refl (omega (arith, row_fits c.loop-i.i c.args.grid.columns c.args.grid.rows c.args.grid.columns (omega arith) (omega arith))))
      c.in_ok-row.ensures.code
      (c.in_ok-extend_from_slice.ensures.items ∙ ap (λ l. c.loop-i.outs.items ++ l) c.deref.ensures.value),
  omega (arith, c.loop-i.invariant.1, c.in_ok-extend_from_slice.ensures.len, c.in_ok-row.ensures.size, c.deref.ensures.len),
)

-- a tree of one size is one tree with its root

leaf-alone : (p : Request) (t : Breakdown) (d : ℕ) → t ≡ leaf d → rooted_of p t ≡ rooted_one p t
leaf-alone p t d is = subst (λ u. rooted_of p u ≡ rooted_one p u) (sym is) refl

gt-alone : (p : Request) (t a b : Breakdown) → t ≡ node Gt a b → rooted_of p t ≡ rooted_one p t
gt-alone p t a b is = subst (λ u. rooted_of p u ≡ rooted_one p u) (sym is) refl

ct-alone : (p : Request) (t a b : Breakdown) → t ≡ node Ct a b → rooted_of p t ≡ rooted_one p t
ct-alone p t a b is = subst (λ u. rooted_of p u ≡ rooted_one p u) (sym is) refl

split-alone : (p : Request) (t a b : Breakdown) → t ≡ node Split a b → rooted_of p t ≡ rooted_one p t
split-alone p t a b is = subst (λ u. rooted_of p u ≡ rooted_one p u) (sym is) refl

pub put_node-returns-in_ok-put_one-in-Leaf-clause-code : goal.put_node-returns-in_ok-put_one-in-Leaf-clause-code
put_node-returns-in_ok-put_one-in-Leaf-clause-code t c =
    subst (λ trees. Wrote c.args.self.now c.put_one.new.self (trees_make c.args.m.now trees) c.args.ins.now c.in_ok-put_one-in-Leaf.field-0.items)
    (sym (leaf-alone c.args.p.now _ _ (ap breakdown_of c.in-Leaf.is))) c.in_ok-put_one-in-Leaf.ensures.code

pub put_node-returns-in_ok-put_one-in-Gt-clause-code : goal.put_node-returns-in_ok-put_one-in-Gt-clause-code
put_node-returns-in_ok-put_one-in-Gt-clause-code t c =
    subst (λ trees. Wrote c.args.self.now c.put_one-in-Gt.new.self (trees_make c.args.m.now trees) c.args.ins.now c.in_ok-put_one-in-Gt.field-0.items)
    (sym (gt-alone c.args.p.now _ _ _ (ap breakdown_of c.in-Gt.is))) c.in_ok-put_one-in-Gt.ensures.code

pub put_node-returns-in_ok-put_one-in-Ct-clause-code : goal.put_node-returns-in_ok-put_one-in-Ct-clause-code
put_node-returns-in_ok-put_one-in-Ct-clause-code t c =
    subst (λ trees. Wrote c.args.self.now c.put_one-in-Ct.new.self (trees_make c.args.m.now trees) c.args.ins.now c.in_ok-put_one-in-Ct.field-0.items)
    (sym (ct-alone c.args.p.now _ _ _ (ap breakdown_of c.in-Ct.is))) c.in_ok-put_one-in-Ct.ensures.code

pub put_node-returns-in_ok-put_one-in-Split-clause-code : goal.put_node-returns-in_ok-put_one-in-Split-clause-code
put_node-returns-in_ok-put_one-in-Split-clause-code t c =
    subst (λ trees. Wrote c.args.self.now c.put_one-in-Split.new.self (trees_make c.args.m.now trees) c.args.ins.now c.in_ok-put_one-in-Split.field-0.items)
    (sym (split-alone c.args.p.now _ _ _ (ap breakdown_of c.in-Split.is))) c.in_ok-put_one-in-Split.ensures.code

pub put_node-returns-in_ok-outs-in-Dim-clause-code : goal.put_node-returns-in_ok-outs-in-Dim-clause-code
put_node-returns-in_ok-outs-in-Dim-clause-code t c =
    let p = c.args.p.now in
    let both = c.first_and_rest-first in
    let rest = both.result.1 in
    let a = breakdown_of c.deref-in-Dim-3.result.now in
    let b = breakdown_of c.deref-in-Dim-2.result.now in
    wrote_tensor c.args.m.now (rooted_of p (breakdown_of c.args.tree.now)) (rooted_of rest b) Dft c.request.result.root c.reduce.result
    c.of_parts-grid.result.rows c.of_parts-grid.result.columns a
    c.args.self.now c.put_node_in_rows.new.self c.put_columns.new.self c.args.ins.now c.deref-in-Dim-4.result.now c.in_ok-outs-in-Dim.outs.items
    (ap (λ (u : Tree). rooted_of p (breakdown_of u)) c.in-Dim.is
    ∙ ap₂ (λ (u v : Tree). tensor Dft (first_of p).root (breakdown_of u) (rooted_of (rest_of p) (breakdown_of v)))
    (sym c.deref-in-Dim-3.ensures) (sym c.deref-in-Dim-2.ensures)
    ∙ ap₂ (λ (q r : Request). tensor Dft q.root a (rooted_of r b))
    (sym (c.request.ensures.value ∙ both.ensures.first)) (sym both.ensures.rest))
    c.reduce.ensures.value
    (c.of_parts-grid.ensures.rows ∙ ap (λ (u : Tree). size_of (breakdown_of u)) (c.deref.ensures ∙ sym c.deref-in-Dim-3.ensures))
    (c.of_parts-grid.ensures.columns ∙ ap (λ (u : Tree). size_of (breakdown_of u)) (c.deref-in-Dim.ensures ∙ sym c.deref-in-Dim-2.ensures)
    ∙ sym (rooted_size rest b))
    (rw c.deref-in-Dim-4.ensures.value c.in_ok-rows-in-Dim.ensures.code)
    c.in_ok-outs-in-Dim.ensures.code
