use Rattle.std.proofs.Common.{ℕ, ◌-◌, ◌∙◌, ap, sym, subst}
use Rattle.matrix_meaning.specs.declared.Kind.{Kind}
use Rattle.matrix_meaning.specs.declared.Kind.TheVariants.{Dft}
use Rattle.tree_model.specs.Breakdown.{leaf, AllowsLeaf}
use Rattle.kernel_gen.specs.Kernel.{kernel_of}
use Rattle.code_gen.proofs.KernelCodes.{hadamard_code}
use Rattle.code_gen.proofs.kernels.leaf_code.Goals as goal

pub returns-in_ok-made-in-Wht-clause-code : goal.returns-in_ok-made-in-Wht-clause-code
returns-in_ok-made-in-Wht-clause-code c =
    let m = c.args.m.now in
    let d = c.args.size in
    c.in_ok-made-in-Wht.ensures.code
    ∙ ap (λ (v : ℕ). kernel_of m Dft (leaf d) (v - 1)) c.get.ensures.value
    ∙ hadamard_code m c.args.root d c.get.ensures.at_least_two (subst (λ (kind : Kind). AllowsLeaf kind d) c.in-Wht.is c.requires.leaf)
    ∙ ap (λ (kind : Kind). kernel_of m kind (leaf d) c.args.root) (sym c.in-Wht.is)
