use Rattle.std.proofs.Common.{sym, ap, ◌∙◌}
use Rattle.operators.specs.Sum.{list_below}
use Rattle.kernel_gen.specs.Kernel.{trees_make}
use Rattle.kernel_gen.proofs.Parts.{kernel_written}
use Rattle.kernel_gen.proofs.kernels.node_kernel.Goals as goal
use Rattle.tree_model.specs.Breakdown.{breakdown_of, size_of}
use Rattle.tree_model.specs.Whole.{rooted_of}
use Rattle.tree_model.proofs.RootedTrees.{rooted_size}

pub returns-clause-code : goal.returns-clause-code
returns-clause-code c =
    let m = c.args.modulus.now in
    let t = breakdown_of c.args.t.now in
    let trees = rooted_of c.args.p.now t in
    kernel_written (trees_make m trees) (size_of t)
    c.begun-writer.result c.put_node.new.self c.deref.result.now c.in_ok-outputs.outputs.items c.ended.result
    c.begun-writer.ensures.code (c.begun-writer.ensures.inputs ∙ c.size-inputs.ensures) (c.deref.ensures.value ∙ c.in_ok-first.ensures.value ∙ ap (λ n. list_below n (λ k. k)) c.size-inputs.ensures) c.in_ok-outputs.ensures.code
    c.ended.ensures.code c.ended.ensures.outputs c.ended.ensures.regs
    ∙ ap (λ n. trees_make m trees (list_below n (λ k. k)) n) (sym (rooted_size c.args.p.now t))
