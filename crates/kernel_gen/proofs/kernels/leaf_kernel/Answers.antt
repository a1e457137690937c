use Rattle.std.proofs.Common.{ap, ◌∙◌}
use Rattle.matrix_meaning.specs.declared.Kind.TheVariants.{Dft}
use Rattle.tree_model.specs.Breakdown.{leaf}
use Rattle.kernel_gen.specs.Kernel.{kernel_of, tree_make}
use Rattle.kernel_gen.proofs.Parts.{kernel_written}
use Rattle.kernel_gen.proofs.Reduced.{kernel-reduced}
use Rattle.kernel_gen.proofs.kernels.leaf_kernel.Goals as goal

pub returns-clause-code : goal.returns-clause-code
returns-clause-code c =
    let m = c.args.modulus.now in
    let d = c.args.size in
    kernel_written (tree_make m Dft (leaf d) c.reduce.result) d
    c.begun-writer.result c.put_tree.new.self c.deref.result.now c.in_ok-outputs.outputs.items c.ended.result
    c.begun-writer.ensures.code c.begun-writer.ensures.inputs (c.deref.ensures.value ∙ c.in_ok-first.ensures.value) c.in_ok-outputs.ensures.code
    c.ended.ensures.code c.ended.ensures.outputs c.ended.ensures.regs
    ∙ ap (kernel_of m Dft (leaf d)) c.reduce.ensures.value
    ∙ kernel-reduced m Dft (leaf d) c.args.root
