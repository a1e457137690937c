use Rattle.std.proofs.Common.{length, sym, ap, ◌∙◌}
use Rattle.kernel_gen.specs.Making.{Made}
use Rattle.sigma_spl.specs.Views.{plain_nest, plain_work}
use Rattle.sigma_spl.specs.Work.{node_of, short, trees_of}
use Rattle.tree_model.specs.Breakdown.{breakdown_of}
use Rattle.code_gen.specs.Views.{plain_host}
use Rattle.kernel_gen.specs.Kernel.{trees_kernel}
use Rattle.code_gen.proofs.Passes.{kernel-sized, kernel-source}
use Rattle.code_gen.proofs.work.emit_work.Goals as goal

pub statements_of_kernel-requires-clause-outputs : goal.statements_of_kernel-requires-clause-outputs
statements_of_kernel-requires-clause-outputs c =
    let h = plain_host c.args.host.now in
    let z = plain_nest c.args.nest.now in
    let k = node_of c.in-Kernel.ctx (breakdown_of c.in-Kernel.tree) in
    let is = ap plain_work c.in-Kernel.is in
    ap (λ (made : Made). length made.outs)
    (c.in_ok-made-in-Kernel.ensures.code ∙ ap (λ m. trees_kernel m (trees_of k)) (kernel-source h z k is c.requires.can).source.0)
    ∙ kernel-sized h z k is c.requires.can
    ∙ sym c.in_ok-made-in-Kernel.ensures.inputs

pub statements_of_kernel-requires-in-Short-clause-outputs : goal.statements_of_kernel-requires-in-Short-clause-outputs
statements_of_kernel-requires-in-Short-clause-outputs c =
    let h = plain_host c.args.host.now in
    let z = plain_nest c.args.nest.now in
    let k = short c.in-Short.kind c.in-Short.root c.in-Short.size in
    ap (λ (made : Made). length made.outs) c.in_ok-made-in-Short.ensures.code
    ∙ kernel-sized h z k (ap plain_work c.in-Short.is) c.requires.can
    ∙ sym c.in_ok-made-in-Short.ensures.inputs
