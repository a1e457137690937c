use Rattle.std.proofs.Common.{◌∙◌, sym, subst, arith}
use Rattle.matrix_meaning.specs.Kind.{transform}
use Rattle.matrix_meaning.specs.declared.Kind.TheVariants.{Dft}
use Rattle.tree_model.specs.Breakdown.{leaf}
use Rattle.tree_model.specs.KernelCosts.{kernel_cost}
use Rattle.kernel_gen.specs.Kernel.{kernel_of}
use Rattle.kernel_gen.specs.Kernels.{TransformsBy, CostsDefinition, IsStraight}
use Rattle.kernel_gen.specs.Making.{Made}
use Rattle.kernel_gen.proofs.KernelLemmas.{definition_does, does_cost, does_straight, does_transform}
use Rattle.kernel_gen.proofs.kernels.dft_kernel.Goals as goal

pub returns-clause-transforms : goal.returns-clause-transforms
returns-clause-transforms c =
    let m = c.args.m.now in
    let d = c.args.d in
    let w = c.args.w in
    let made = kernel_of m Dft (leaf d) w in
    subst (λ (made : Made). TransformsBy m 1 Dft d w made) (sym c.in_ok-made.ensures.code)
    (does_transform m d made (transform Dft m d w) 1 (kernel_cost 1 m Dft (leaf d) w)
    (definition_does m 1 d w c.get-modulus.ensures.at_least_two c.requires.0))

pub returns-clause-cost : goal.returns-clause-cost
returns-clause-cost c =
    let m = c.args.m.now in
    let d = c.args.d in
    let w = c.args.w in
    let made = kernel_of m Dft (leaf d) w in
    subst (λ (made : Made). CostsDefinition m d w made) (sym c.in_ok-made.ensures.code)
    (λ weight counted.
    does_cost m d made (transform Dft m d w) weight 1 (kernel_cost weight m Dft (leaf d) w) counted
    (definition_does m weight d w c.get-modulus.ensures.at_least_two c.requires.0)
    ∙ omega arith)

pub returns-clause-straight : goal.returns-clause-straight
returns-clause-straight c =
    let m = c.args.m.now in
    let d = c.args.d in
    let w = c.args.w in
    let made = kernel_of m Dft (leaf d) w in
    subst (λ (made : Made). IsStraight m d made) (sym c.in_ok-made.ensures.code)
    (does_straight m d made (transform Dft m d w) 1 (kernel_cost 1 m Dft (leaf d) w)
    (definition_does m 1 d w c.get-modulus.ensures.at_least_two c.requires.0))
