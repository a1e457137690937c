-- Trees with the roots of their nodes: what they do, what they cost, and that they can be made.
use Rattle.std.proofs.Common.{◌≡◌, ℕ, ◌+◌, ◌*◌, ◌/◌, ◌<◌, Bool, true, false, List, refl, sym, ap, ap₂, ◌∙◌, arith}
use Rattle.std.proofs.Common.{if◌then◌else◌, subst}
use Rattle.std.specs.Prelude.{nat_le, ◌==◌}
use Rattle.std.proofs.lemmas.Bool.Decides.{nat_tests}
use Rattle.tree_model.specs.KernelCosts.{AllowsRoot, CanMake, kernel_cost, trees_cost}
use Rattle.kernel_gen.proofs.NodeCosts.{cost-same, kernel-short}
use Rattle.kernel_gen.proofs.RequestNodes.{any-root}
use Rattle.matrix_meaning.specs.Kind.{transform}
use Rattle.matrix_meaning.specs.declared.Dimensions.TheVariants.{One}
use Rattle.matrix_meaning.specs.declared.Kind.TheVariants.{Dft}
use Rattle.matrix_meaning.specs.declared.Request.{Request}
use Rattle.matrix_meaning.specs.Parts.{first_of, rest_of}
use Rattle.matrix_meaning.proofs.Parts.{first_is_one}
use Rattle.operators.specs.Operator.{on_blocks, on_columns}
use Rattle.operators.proofs.Lists.{on_blocks-same, on_columns-same}
use Rattle.kernel_gen.specs.Nodes.{IsNodeTree}
use Rattle.kernel_gen.proofs.NodeTrees.{IsPartOf, first_is_part, rest_is_part, left_tree, right_tree, left_less}
use Rattle.kernel_gen.proofs.NodeTrees.{right_less}
use Rattle.tree_model.specs.Breakdown.{Breakdown, leaf, node, size_of, IsWellFormed}
use Rattle.tree_model.specs.Cost.{is_kernel, is_plain, node_root}
use Rattle.tree_model.specs.Trees.{trees_on}
use Rattle.tree_model.specs.Whole.{IsTreeOf, cost_in, node_on, node_transform, rooted_of}
use Rattle.tree_model.specs.declared.tree.Rule.TheVariants.{Gt, Ct, Split, Dim}
use Rattle.tree_model.proofs.FlatTrees.{flat_costs, well_formed}
use Rattle.tree_model.proofs.NodesAsked.{root_of_whole}
use Rattle.tree_model.proofs.RootedTrees.{rooted_size}
use Rattle.tree_model.proofs.Splits.{product_div}

-- ---- what they do

-- a tree of one size does the transform of its node
pub flat_node : (p : Request) (t : Breakdown) (x : List ℕ) → p.dimensions ≡ One → IsTreeOf p t →
    node_on p t x ≡ node_transform p (size_of t) x
flat_node p (leaf d) x one tree = refl
flat_node p (node Gt a b) x one tree = refl
flat_node p (node Ct a b) x one tree = refl
flat_node p (node Split a b) x one tree = refl
flat_node p (node Dim a b) x one tree = absurd (tree.2.0 one)

-- the node of the whole has the request's root
first_root : (p : Request) (a b : Breakdown) → IsNodeTree p (node Dim a b) →
    node_root (first_of p) (size_of a) ≡ (first_of p).root
first_root p a b h =
    ap (node_root (first_of p)) h.tree.2.1 ∙ root_of_whole (first_of p) (left_tree p Dim a b h).valid

first_on : (p : Request) (a b : Breakdown) (x : List ℕ) → IsNodeTree p (node Dim a b) →
    transform Dft p.modulus (size_of a) (first_of p).root x ≡ node_on (first_of p) a x
first_on p a b x h =
    let part = first_is_part p h.tree.2.0 in
    sym (
    flat_node (first_of p) a x (first_is_one p h.tree.2.0) h.tree.3
    ∙ ap (λ w. transform (first_of p).kind (first_of p).modulus (size_of a) w x) (first_root p a b h)
    ∙ ap₂ (λ kind m. transform kind m (size_of a) (first_of p).root x) part.kind part.modulus
    )

-- trees with their roots do what the tree does
pub rooted_on : (p : Request) (t : Breakdown) (x : List ℕ) → IsNodeTree p t →
    trees_on p.modulus (rooted_of p t) x ≡ node_on p t x
rooted_on p (leaf d) x h = refl
rooted_on p (node Gt a b) x h = refl
rooted_on p (node Ct a b) x h = refl
rooted_on p (node Split a b) x h = refl
rooted_on p (node Dim a b) x h =
    let r = size_of a in
    let s = size_of b in
    let m = p.modulus in
    let others = rooted_of (rest_of p) b in
    let left = transform Dft m r (first_of p).root in
    ap (λ n. on_columns r n left (on_blocks r n (trees_on m others) x)) (rooted_size (rest_of p) b)
    ∙ ap (on_columns r s left)
    (on_blocks-same r s (trees_on m others) (node_on (rest_of p) b) x
    (λ y. ap (λ k. trees_on k others y) (sym (rest_is_part p h.tree.2.0).modulus)
    ∙ rooted_on (rest_of p) b y (right_tree p Dim a b h)))
    ∙ on_columns-same r s left (node_on (first_of p) a) _ (λ y. first_on p a b y h)

-- ---- what they cost

-- a short node of a request for one processor and one lane is a kernel
either : (b : Bool) → (if b then true else true) ≡ true
either true = refl
either false = refl

plain-kernel : (p : Request) (n : ℕ) → is_plain p ≡ true → nat_le n p.unroll ≡ true → is_kernel p n ≡ true
plain-kernel p n plain short =
    ap₂ (λ b c. if b then (if n == p.size then c else true) else false) short plain ∙ either (n == p.size)

short-part : (p q : Request) (n d : ℕ) → IsPartOf p q → is_kernel p n ≡ true → d < n → is_kernel q d ≡ true
short-part p q n d part is less =
    let short = kernel-short p n is in
    let same = part.unroll in
    let shorter : nat_le d q.unroll ≡ true = grind (arith, nat_tests) in
    plain-kernel q d part.plain shorter

-- a tree of one size
flat-cost : (p : Request) (t : Breakdown) → IsNodeTree p t → p.dimensions ≡ One → is_kernel p (size_of t) ≡ true →
    kernel_cost p.weight p.modulus p.kind t (node_root p (size_of t)) ≡ cost_in p t
flat-cost p t h one short =
    cost-same p t (p.size / size_of t) h.valid.in_range.size.0 (well_formed p t one h.tree)
    (product_div p.size (size_of t) h.divides) short
    ∙ sym (flat_costs p t one h.tree)

first-cost : (p : Request) (a b : Breakdown) → IsNodeTree p (node Dim a b) →
    is_kernel p (size_of a * size_of b) ≡ true →
    kernel_cost p.weight p.modulus Dft a (first_of p).root ≡ cost_in (first_of p) a
first-cost p a b h short =
    let q = first_of p in
    let part = first_is_part p h.tree.2.0 in
    let is = short-part p q (size_of a * size_of b) (size_of a) part short (left_less p Dim a b h) in
    sym (ap₂ (λ weight m. kernel_cost weight m Dft a q.root) part.weight part.modulus)
    ∙ ap₂ (λ kind w. kernel_cost q.weight q.modulus kind a w) (sym part.kind) (sym (first_root p a b h))
    ∙ flat-cost q a (left_tree p Dim a b h) (first_is_one p h.tree.2.0) is

pub rooted_cost : (p : Request) (t : Breakdown) → IsNodeTree p t → is_kernel p (size_of t) ≡ true →
    trees_cost p.weight p.modulus (rooted_of p t) ≡ cost_in p t
rooted_cost p (leaf d) h short = flat-cost p (leaf d) h h.tree.0 short
rooted_cost p (node Gt a b) h short = flat-cost p (node Gt a b) h h.tree.2.0 short
rooted_cost p (node Ct a b) h short = flat-cost p (node Ct a b) h h.tree.2.0 short
rooted_cost p (node Split a b) h short = flat-cost p (node Split a b) h h.tree.2.0 short
rooted_cost p (node Dim a b) h short =
    let q = rest_of p in
    let part = rest_is_part p h.tree.2.0 in
    let is = short-part p q (size_of a * size_of b) (size_of b) part short (right_less p Dim a b h) in
    let others = rooted_of q b in
    let rest : trees_cost p.weight p.modulus others ≡ cost_in q b =
    sym (ap₂ (λ weight m. trees_cost weight m others) part.weight part.modulus)
    ∙ rooted_cost q b (right_tree p Dim a b h) is in
    ap₂ (λ n k. n * k + size_of a * trees_cost p.weight p.modulus others) (rooted_size q b) (first-cost p a b h short)
    ∙ ap (λ k. size_of b * cost_in (first_of p) a + size_of a * k) rest
    ∙ omega arith

-- ---- they can be made

flat-made : (p : Request) (t : Breakdown) → IsNodeTree p t → p.dimensions ≡ One →
    IsWellFormed p.kind t × AllowsRoot p.modulus (node_root p (size_of t)) p.kind t
flat-made p t h one = (well_formed p t one h.tree, any-root p t h.valid h.divides)

first-made : (p : Request) (a b : Breakdown) → IsNodeTree p (node Dim a b) →
    IsWellFormed Dft a × AllowsRoot p.modulus (first_of p).root Dft a
first-made p a b h =
    let q = first_of p in
    let part = first_is_part p h.tree.2.0 in
    let made = flat-made q a (left_tree p Dim a b h) (first_is_one p h.tree.2.0) in (
      subst (λ kind. IsWellFormed kind a) part.kind made.0,
      subst (λ kind. AllowsRoot p.modulus q.root kind a) part.kind
          (subst (λ m. AllowsRoot m q.root q.kind a) part.modulus
          (subst (λ w. AllowsRoot q.modulus w q.kind a) (first_root p a b h) made.1)),
    )

pub rooted_made : (p : Request) (t : Breakdown) → IsNodeTree p t → CanMake p.modulus (rooted_of p t)
rooted_made p (leaf d) h = flat-made p (leaf d) h h.tree.0
rooted_made p (node Gt a b) h = flat-made p (node Gt a b) h h.tree.2.0
rooted_made p (node Ct a b) h = flat-made p (node Ct a b) h h.tree.2.0
rooted_made p (node Split a b) h = flat-made p (node Split a b) h h.tree.2.0
rooted_made p (node Dim a b) h = (
  first-made p a b h,
  subst (λ m. CanMake m (rooted_of (rest_of p) b)) (rest_is_part p h.tree.2.0).modulus
      (rooted_made (rest_of p) b (right_tree p Dim a b h)),
)
