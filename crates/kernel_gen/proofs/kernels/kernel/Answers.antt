use Rattle.std.proofs.Common.{◌≡◌, ap, ◌∙◌, sym, subst}
use Rattle.matrix_meaning.specs.Parts.{forward_of}
use Rattle.matrix_meaning.specs.Valid.{IsValid}
use Rattle.matrix_meaning.specs.declared.Request.{Request}
use Rattle.tree_model.specs.Breakdown.{breakdown_of, size_of}
use Rattle.kernel_gen.specs.Kernel.{node_kernel, trees_kernel}
use Rattle.kernel_gen.specs.Kernels.{TransformsNode, CostsNode, IsStraight}
use Rattle.kernel_gen.specs.Making.{Made}
use Rattle.kernel_gen.proofs.NodeKernels.{forward_modulus, node_costs, node_straight, node_transforms, stands_node}
use Rattle.kernel_gen.proofs.Sizes.{node_small, node_words}
use Rattle.kernel_gen.proofs.kernels.kernel.Goals as goal
use Rattle.tree_model.specs.Whole.{rooted_of, IsTreeOf}

-- the tree is one of the request by the inverse root, or of the request itself

abbrev node-of-valid : (c p : Request) → p ≡ forward_of c → IsValid p → IsValid (forward_of c)
node-of-valid c p same valid = subst IsValid same valid

pub node_kernel-requires-clause-tree : goal.node_kernel-requires-clause-tree
node_kernel-requires-clause-tree c =
    subst (λ (p : Request). IsTreeOf p (breakdown_of c.args.t.now)) (sym c.forward-p.ensures.value) c.requires.stands.0

pub node_kernel-requires-clause-words : goal.node_kernel-requires-clause-words
node_kernel-requires-clause-words c =
    node_words (forward_of c.args.c.now) (breakdown_of c.args.t.now)
    (stands_node c.args.c.now (breakdown_of c.args.t.now)
    (node-of-valid c.args.c.now c.forward-p.result c.forward-p.ensures.value c.request.ensures.valid) c.requires.stands)

pub node_kernel-requires-clause-size : goal.node_kernel-requires-clause-size
node_kernel-requires-clause-size c =
    node_small (forward_of c.args.c.now) (breakdown_of c.args.t.now)
    (stands_node c.args.c.now (breakdown_of c.args.t.now)
    (node-of-valid c.args.c.now c.forward-p.result c.forward-p.ensures.value c.request.ensures.valid) c.requires.stands)

pub returns-clause-code : goal.returns-clause-code
returns-clause-code c =
    let t = breakdown_of c.args.t.now in
    c.in_ok-made.ensures.code
    ∙ ap (λ m. trees_kernel m (rooted_of c.forward-p.result t))
    (rw c.unwrap-modulus.ensures at c.new.ensures.value ∙ ap (λ (p : Request). p.modulus) c.request.ensures.value)
    ∙ ap (λ (p : Request). node_kernel p t) c.forward-p.ensures.value

-- what holds of the node's code holds of the code that was written

pub returns-clause-transforms : goal.returns-clause-transforms
returns-clause-transforms c =
    let p = forward_of c.args.c.now in
    let t = breakdown_of c.args.t.now in
    let node = stands_node c.args.c.now t (node-of-valid c.args.c.now c.forward-p.result c.forward-p.ensures.value c.request.ensures.valid) c.requires.stands in
    subst (λ (made : Made). TransformsNode p t made) (sym (returns-clause-code c)) (node_transforms p t node)

pub returns-clause-cost : goal.returns-clause-cost
returns-clause-cost c =
    let p = forward_of c.args.c.now in
    let t = breakdown_of c.args.t.now in
    let node = stands_node c.args.c.now t (node-of-valid c.args.c.now c.forward-p.result c.forward-p.ensures.value c.request.ensures.valid) c.requires.stands in
    subst (λ (made : Made). CostsNode p t made) (sym (returns-clause-code c)) (node_costs p t node)

pub returns-clause-straight : goal.returns-clause-straight
returns-clause-straight c =
    let p = forward_of c.args.c.now in
    let t = breakdown_of c.args.t.now in
    let node = stands_node c.args.c.now t (node-of-valid c.args.c.now c.forward-p.result c.forward-p.ensures.value c.request.ensures.valid) c.requires.stands in
    subst (λ (made : Made). IsStraight c.args.c.now.modulus c.in_ok-made.made.inputs made) (sym (returns-clause-code c))
    (subst (λ inputs. IsStraight c.args.c.now.modulus inputs (node_kernel p t)) (sym c.in_ok-made.ensures.inputs)
    (subst (λ m. IsStraight m (size_of t) (node_kernel p t)) (forward_modulus c.args.c.now) (node_straight p t node)))
