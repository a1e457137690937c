use Rattle.std.proofs.Common.{sym, ap, ap₂, ◌∙◌}
use Rattle.kernel_gen.proofs.Parts.{wrote_single}
use Rattle.kernel_gen.proofs.writer.Writer.put_one.Goals as goal
use Rattle.matrix_meaning.specs.declared.Request.{Request}
use Rattle.tree_model.specs.Breakdown.{breakdown_of}
use Rattle.tree_model.specs.Cost.{node_root}
use Rattle.tree_model.specs.Trees.{single}
use Rattle.tree_model.specs.Whole.{rooted_one}

pub returns-clause-code : goal.returns-clause-code
returns-clause-code c =
    let p = c.args.p.now in
    let t = breakdown_of c.args.tree.now in
    wrote_single c.args.m.now (rooted_one p t) c.request.result.kind c.node_root-root.result c.reduce.result t
    c.args.self.now c.put_tree.new.self c.args.ins.now c.in_ok-outs.outs.items
    (ap₂ (λ kind w. single kind w t) (ap (λ (q : Request). q.kind) (sym c.request.ensures.value))
    (ap (node_root p) (sym c.size.ensures) ∙ sym c.node_root-root.ensures.value))
    c.reduce.ensures.value c.in_ok-outs.ensures.code
