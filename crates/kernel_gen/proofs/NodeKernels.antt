-- The kernel of a node: what it does, what it costs, and which registers it names.
use Rattle.std.proofs.Common.{◌≡◌, ℕ, ◌*◌, ◌%◌, refl, ap, subst, ◌∙◌, arith, List}
use Rattle.matrix_meaning.specs.Parts.{forward_by, forward_of}
use Rattle.matrix_meaning.specs.Valid.{IsValid}
use Rattle.matrix_meaning.specs.declared.Kind.{Kind}
use Rattle.matrix_meaning.specs.declared.Kind.TheVariants.{Dft, Wht, Idft}
use Rattle.matrix_meaning.specs.declared.Request.{Request}
use Rattle.operators.specs.Operator.{Operator}
use Rattle.kernel_gen.specs.Kernel.{node_kernel}
use Rattle.kernel_gen.specs.Kernels.{CostsNode, IsStraight, Transforms, TransformsNode}
use Rattle.kernel_gen.specs.Making.{Made}
use Rattle.kernel_gen.specs.Nodes.{IsNodeTree}
use Rattle.kernel_gen.proofs.KernelLemmas.{does_cost, does_straight, does_transform, firsts}
use Rattle.kernel_gen.proofs.Pieces.{DoesAt}
use Rattle.kernel_gen.proofs.Products.{trees-does}
use Rattle.kernel_gen.proofs.RootedNodes.{rooted_cost, rooted_made, rooted_on}
use Rattle.tree_model.specs.Breakdown.{Breakdown, size_of}
use Rattle.tree_model.specs.Chosen.{StandsIn}
use Rattle.tree_model.specs.KernelCosts.{trees_cost}
use Rattle.tree_model.specs.Trees.{trees_on, trees_size}
use Rattle.tree_model.specs.Whole.{node_on, rooted_of}
use Rattle.tree_model.proofs.RootedTrees.{rooted_size}
use Rattle.tree_model.proofs.WholeTrees.{forward_size}

pub by_modulus : (kind : Kind) (c : Request) → (forward_by kind c).modulus ≡ c.modulus
by_modulus Dft c = refl
by_modulus Wht c = refl
by_modulus Idft c = refl

pub forward_modulus : (c : Request) → (forward_of c).modulus ≡ c.modulus
forward_modulus c = by_modulus c.kind c

pub stands_node : (c : Request) (t : Breakdown) → IsValid (forward_of c) → StandsIn c t → IsNodeTree (forward_of c) t
stands_node c t valid h =
    record { valid = valid; tree = h.0; divides = ap (λ n. n % size_of t) (forward_size c) ∙ h.1 }

same_transforms : (m lanes n k : ℕ) (f g : Operator) (made : Made) → n ≡ k → ((x : List ℕ) → f x ≡ g x) →
    Transforms m lanes n f made → Transforms m lanes k g made
same_transforms m lanes n k f g made size same h =
    subst (λ i. Transforms m lanes i g made) size
    (λ regs s room wide.
    let whole = h regs s room wide in (whole.0, λ lane there small. whole.1 lane there small ∙ same _))

module _ (p : Request) (t : Breakdown) (h : IsNodeTree p t) where
  trees_do : (weight : ℕ) →
      DoesAt p.modulus weight (trees_size (rooted_of p t)) (trees_cost weight p.modulus (rooted_of p t))
      (firsts (trees_size (rooted_of p t))) (trees_size (rooted_of p t)) (node_kernel p t)
      (trees_on p.modulus (rooted_of p t))
  trees_do weight = trees-does p.modulus weight (rooted_of p t) h.valid.in_range.modulus.0 (rooted_made p t h)

  pub node_transforms : TransformsNode p t (node_kernel p t)
  node_transforms =
      let m = p.modulus in
      let trees = rooted_of p t in
      same_transforms m p.lanes (trees_size trees) (size_of t) (trees_on m trees) (node_on p t) (node_kernel p t)
      (rooted_size p t) (λ x. rooted_on p t x h)
      (does_transform m (trees_size trees) (node_kernel p t) (trees_on m trees) p.lanes (trees_cost 1 m trees) (trees_do 1))

  pub node_costs : CostsNode p t (node_kernel p t)
  node_costs is =
      let m = p.modulus in
      let trees = rooted_of p t in
      let weight = h.valid.in_range.weight in
      does_cost m (trees_size trees) (node_kernel p t) (trees_on m trees) p.weight p.lanes (trees_cost p.weight m trees)
      (omega arith) (trees_do p.weight)
      ∙ ap (λ k. p.lanes * k) (rooted_cost p t h is)

  pub node_straight : IsStraight p.modulus (size_of t) (node_kernel p t)
  node_straight =
      let m = p.modulus in
      let trees = rooted_of p t in
      subst (λ n. IsStraight m n (node_kernel p t)) (rooted_size p t)
      (does_straight m (trees_size trees) (node_kernel p t) (trees_on m trees) 1 (trees_cost 1 m trees) (trees_do 1))
