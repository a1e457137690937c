use Rattle.std.proofs.Common.{ℕ, ◌*◌, ◌++◌, arith, refl, sym, ap, ap₂, ◌∙◌}
use Rattle.std.proofs.lemmas.Nat.{row_fits}
use Rattle.operators.proofs.Places.{between-block}
use Rattle.ring_mod.specs.Residue.{power_mod}
use Rattle.tree_model.specs.Breakdown.{breakdown_of, node, size_of}
use Rattle.tree_model.specs.declared.tree.Rule.TheVariants.{Gt, Ct, Split, Dim}
use Rattle.kernel_gen.specs.Making.{diagonal_make}
use Rattle.kernel_gen.specs.Writing.{make_of, twiddled_of}
use Rattle.kernel_gen.proofs.Writes.{wrote-row, wrote-then, wrote-diagonal}
use Rattle.kernel_gen.proofs.Parts.{wrote_ct, wrote_split, wrote_dim, wrote_gt}
use Rattle.kernel_gen.proofs.writer.Writer.+tree.Goals as goal

pub put_rows-loop-i-preserved : goal.put_rows-loop-i-preserved
put_rows-loop-i-preserved t c = (
  wrote-row c.args.self.now c.loop-i.self c.put_tree.new.self (λ _. make_of c.args.transform.now (breakdown_of c.args.tree.now))
      c.loop-i.i c.args.grid.columns c.args.ins.now c.loop-i.outs.items _ c.in_ok-row.row.items _
      c.loop-i.invariant.0
      (between-block c.args.grid.columns c.loop-i.i c.args.ins.now _ _ refl refl (omega (arith, row_fits c.loop-i.i c.args.grid.columns c.args.grid.rows c.args.grid.columns (omega arith) (omega arith))))
      c.in_ok-row.ensures.code
      (c.in_ok-extend_from_slice.ensures.items ∙ ap (λ l. c.loop-i.outs.items ++ l) c.deref.ensures.value),
  omega (arith, c.loop-i.invariant.1, c.in_ok-extend_from_slice.ensures.len, c.in_ok-row.ensures.size, c.deref.ensures.len),
)

pub put_twiddled_rows-loop-i-preserved : goal.put_twiddled_rows-loop-i-preserved
put_twiddled_rows-loop-i-preserved t c =
    let tree = make_of c.args.transform.now (breakdown_of c.args.tree.now) in
    let factor = λ (k : ℕ). power_mod c.args.transform.now.modulus.now c.args.twiddle (c.loop-i.i * k) in (
      wrote-row c.args.self.now c.loop-i.self c.put_twiddles.new.self (twiddled_of c.args.transform.now c.args.grid.columns c.args.twiddle (breakdown_of c.args.tree.now))
          c.loop-i.i c.args.grid.columns c.args.ins.now c.loop-i.outs.items _ c.in_ok-row-2.row.items _
          c.loop-i.invariant.0
          (between-block c.args.grid.columns c.loop-i.i c.args.ins.now _ _ refl refl (omega (arith, row_fits c.loop-i.i c.args.grid.columns c.args.grid.rows c.args.grid.columns (omega arith) (omega arith))))
          (wrote-then c.loop-i.self c.put_tree.new.self c.put_twiddles.new.self tree (diagonal_make c.args.transform.now.modulus.now c.args.grid.columns factor) _ c.deref.result.now c.in_ok-row-2.row.items
          (rw c.deref.ensures.value c.in_ok-row.ensures.code)
          (wrote-diagonal c.put_tree.new.self c.put_twiddles.new.self c.args.transform.now.modulus.now c.args.grid.columns factor c.deref.result.now c.in_ok-row-2.row.items
          (omega (arith, c.deref.ensures.len, c.in_ok-row.ensures.size))
          c.in_ok-row-2.ensures.code c.in_ok-row-2.ensures.outs))
          (c.in_ok-extend_from_slice.ensures.items ∙ ap (λ l. c.loop-i.outs.items ++ l) c.deref-in-loop-i.ensures.value),
      omega (arith, c.loop-i.invariant.1, c.in_ok-extend_from_slice.ensures.len, c.in_ok-row-2.ensures.size, c.in_ok-row.ensures.size, c.deref.ensures.len, c.deref-in-loop-i.ensures.len),
    )

pub put_tree-returns-in_ok-outs-in-Ct-clause-code : goal.put_tree-returns-in_ok-outs-in-Ct-clause-code
put_tree-returns-in_ok-outs-in-Ct-clause-code t c =
    wrote_ct c.args.transform.now c.part-left-in-Ct.result c.part-right-in-Ct.result (breakdown_of c.args.tree.now) (breakdown_of c.deref-in-Ct-5.result.now) (breakdown_of c.deref-in-Ct-3.result.now) c.of_parts-grid-in-Ct.result.rows c.of_parts-grid-in-Ct.result.columns
    c.args.self.now c.put_twiddled_rows.new.self c.put_columns-in-Ct.new.self c.args.ins.now c.deref-in-Ct-4.result.now c.deref-in-Ct-6.result.now c.in_ok-outs-in-Ct.outs.items
    (record {
      tree_is = ap breakdown_of c.in-Ct.is ∙ ap₂ (node Ct) (ap breakdown_of (sym c.deref-in-Ct-5.ensures)) (ap breakdown_of (sym c.deref-in-Ct-3.ensures));
      r_is = c.of_parts-grid-in-Ct.ensures.rows ∙ ap (λ z. size_of (breakdown_of z)) (c.deref-in-Ct.ensures ∙ sym c.deref-in-Ct-5.ensures);
      s_is = c.of_parts-grid-in-Ct.ensures.columns ∙ ap (λ z. size_of (breakdown_of z)) (c.deref-in-Ct-2.ensures ∙ sym c.deref-in-Ct-3.ensures);
      left_is = c.part-left-in-Ct.ensures.value;
      right_is = c.part-right-in-Ct.ensures.value;
    })
    (c.deref-in-Ct-4.ensures.value ∙ c.in_ok-rows-in-Ct.ensures.value)
    (rw c.deref-in-Ct-6.ensures.value c.in_ok-inner-in-Ct.ensures.code)
    c.in_ok-outs-in-Ct.ensures.code

pub put_tree-returns-in_ok-outs-in-Split-clause-code : goal.put_tree-returns-in_ok-outs-in-Split-clause-code
put_tree-returns-in_ok-outs-in-Split-clause-code t c =
    wrote_split c.args.transform.now c.part-left-in-Split.result c.part-right-in-Split.result (breakdown_of c.args.tree.now) (breakdown_of c.deref-in-Split-4.result.now) (breakdown_of c.deref-in-Split-3.result.now) c.of_parts-grid-in-Split.result.rows c.of_parts-grid-in-Split.result.columns
    c.args.self.now c.put_rows-in-Split.new.self c.put_columns-in-Split.new.self c.args.ins.now c.deref-in-Split-5.result.now c.in_ok-outs-in-Split.outs.items
    (record {
      tree_is = ap breakdown_of c.in-Split.is ∙ ap₂ (node Split) (ap breakdown_of (sym c.deref-in-Split-4.ensures)) (ap breakdown_of (sym c.deref-in-Split-3.ensures));
      r_is = c.of_parts-grid-in-Split.ensures.rows ∙ ap (λ z. size_of (breakdown_of z)) (c.deref-in-Split.ensures ∙ sym c.deref-in-Split-4.ensures);
      s_is = c.of_parts-grid-in-Split.ensures.columns ∙ ap (λ z. size_of (breakdown_of z)) (c.deref-in-Split-2.ensures ∙ sym c.deref-in-Split-3.ensures);
      left_is = c.part-left-in-Split.ensures.value;
      right_is = c.part-right-in-Split.ensures.value;
    })
    (rw c.deref-in-Split-5.ensures.value c.in_ok-inner-in-Split.ensures.code)
    c.in_ok-outs-in-Split.ensures.code

pub put_tree-returns-in_ok-outs-in-Dim-clause-code : goal.put_tree-returns-in_ok-outs-in-Dim-clause-code
put_tree-returns-in_ok-outs-in-Dim-clause-code t c =
    wrote_dim c.args.transform.now c.part-left-in-Dim.result c.part-right-in-Dim.result (breakdown_of c.args.tree.now) (breakdown_of c.deref-in-Dim-4.result.now) (breakdown_of c.deref-in-Dim-3.result.now) c.of_parts-grid-in-Dim.result.rows c.of_parts-grid-in-Dim.result.columns
    c.args.self.now c.put_rows-in-Dim.new.self c.put_columns-in-Dim.new.self c.args.ins.now c.deref-in-Dim-5.result.now c.in_ok-outs-in-Dim.outs.items
    (record {
      tree_is = ap breakdown_of c.in-Dim.is ∙ ap₂ (node Dim) (ap breakdown_of (sym c.deref-in-Dim-4.ensures)) (ap breakdown_of (sym c.deref-in-Dim-3.ensures));
      r_is = c.of_parts-grid-in-Dim.ensures.rows ∙ ap (λ z. size_of (breakdown_of z)) (c.deref-in-Dim.ensures ∙ sym c.deref-in-Dim-4.ensures);
      s_is = c.of_parts-grid-in-Dim.ensures.columns ∙ ap (λ z. size_of (breakdown_of z)) (c.deref-in-Dim-2.ensures ∙ sym c.deref-in-Dim-3.ensures);
      left_is = c.part-left-in-Dim.ensures.value;
      right_is = c.part-right-in-Dim.ensures.value;
    })
    (rw c.deref-in-Dim-5.ensures.value c.in_ok-inner-in-Dim.ensures.code)
    c.in_ok-outs-in-Dim.ensures.code

pub put_tree-returns-in_ok-outs-in-Gt-clause-code : goal.put_tree-returns-in_ok-outs-in-Gt-clause-code
put_tree-returns-in_ok-outs-in-Gt-clause-code t c =
    wrote_gt c.args.transform.now c.part-left.result c.part-right.result (breakdown_of c.args.tree.now) (breakdown_of c.deref-in-Gt-4.result.now) (breakdown_of c.deref-in-Gt-2.result.now) c.of_parts-grid.result.rows c.of_parts-grid.result.columns
    c.args.self.now c.put_rows.new.self c.put_columns.new.self c.args.ins.now c.deref-in-Gt-3.result.now c.deref-in-Gt-5.result.now c.deref-in-Gt-6.result.now c.in_ok-outs-in-Gt.outs.items
    (record {
      tree_is = ap breakdown_of c.in-Gt.is ∙ ap₂ (node Gt) (ap breakdown_of (sym c.deref-in-Gt-4.ensures)) (ap breakdown_of (sym c.deref-in-Gt-2.ensures));
      r_is = c.of_parts-grid.ensures.rows ∙ ap (λ z. size_of (breakdown_of z)) (c.deref.ensures ∙ sym c.deref-in-Gt-4.ensures);
      s_is = c.of_parts-grid.ensures.columns ∙ ap (λ z. size_of (breakdown_of z)) (c.deref-in-Gt.ensures ∙ sym c.deref-in-Gt-2.ensures);
      left_is = c.part-left.ensures.value;
      right_is = c.part-right.ensures.value;
    })
    (c.deref-in-Gt-3.ensures.value ∙ c.in_ok-rows-in-Gt.ensures.value)
    (rw c.deref-in-Gt-5.ensures.value c.in_ok-inner-in-Gt.ensures.code)
    (rw c.deref-in-Gt-6.ensures.value c.in_ok-outer-in-Gt.ensures.code)
    c.in_ok-outs-in-Gt.ensures.value
