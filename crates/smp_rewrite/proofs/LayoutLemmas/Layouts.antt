-- The layout of a tree: its size, what it does, what it costs, and that it can be made.
use Rattle.std.proofs.Common.{◌≡◌, ℕ, ◌+◌, ◌*◌, ◌-◌, ◌/◌, ◌<◌, ◌≤◌, Bool, true, false, List, refl, sym, ap, ap₂, subst}
use Rattle.std.proofs.Common.{◌∙◌, arith, if◌then◌else◌, inl, inr, mul_comm}
use Rattle.std.specs.Prelude.{nat_le}
use Rattle.std.proofs.Math.Nat.{mod-eq_of_lt}
use Rattle.std.proofs.lemmas.Bool.{cases_lt}
use Rattle.std.proofs.lemmas.Bool.Decides.{nat_tests}
use Rattle.std.proofs.lemmas.Nat.{mul-lt}
use Rattle.tree_model.specs.KernelCosts.{IsRoot, trees_cost}
use Rattle.kernel_gen.proofs.RequestNodes.{root-of}
use Rattle.matrix_meaning.specs.Kind.{transform, IsPowerOfTwo}
use Rattle.matrix_meaning.specs.Valid.{HasRoot}
use Rattle.matrix_meaning.specs.declared.Dimensions.TheVariants.{One}
use Rattle.matrix_meaning.specs.declared.Kind.{Kind}
use Rattle.matrix_meaning.specs.declared.Kind.TheVariants.{Dft, Wht, Idft}
use Rattle.matrix_meaning.specs.declared.Request.{Request}
use Rattle.matrix_meaning.proofs.CooleyTukey.{cooley_tukey}
use Rattle.matrix_meaning.proofs.GoodThomas.{good_thomas}
use Rattle.matrix_meaning.proofs.WalshHadamard.{split}
use Rattle.operators.specs.Operator.{Operator}
use Rattle.operators.specs.Sizes.{max_size}
use Rattle.sigma_spl.specs.Work.{PlainWork, kernel, node_of, work_size, work_on}
use Rattle.ring_mod.specs.Residue.{power_mod}
use Rattle.ring_mod.proofs.Powers.{power_mod_of_power}
use Rattle.smp_rewrite.specs.Layout.Tree.{Layout, work, by, layout_size, layout_on, layout_cost, layout_of}
use Rattle.smp_rewrite.specs.Layout.Tree.{node_work, long_work, rule_on, CanPart, IsGoodRule}
use Rattle.smp_rewrite.specs.Layout.Tree.{IsGoodLayout}
use Rattle.sigma_spl.specs.Shared.Costs.{work_cost}
use Rattle.smp_rewrite.specs.Layout.Tree as layouts
use Rattle.kernel_gen.specs.Nodes.{IsNodeTree}
use Rattle.smp_rewrite.specs.Layout.Meaning.{FitsWhole, LayoutsHaveSize, LayoutsDo, LayoutsCost, LayoutsAreGood}
use Rattle.kernel_gen.proofs.NodeTrees.{left_tree, right_tree, left_fields, right_fields, left_less, times_size}
use Rattle.kernel_gen.proofs.NodeTrees.{size-le}
use Rattle.kernel_gen.proofs.RootedNodes.{rooted_on, rooted_cost, rooted_made, flat_node}
use Rattle.smp_rewrite.proofs.LayoutLemmas.NodeTrees.{left_fits, right_fits, node_kind, node_stands}
use Rattle.tree_model.proofs.RootedTrees.{rooted_size}
use Rattle.tree_model.specs.Breakdown.{Breakdown, leaf, node, size_of, AllowsLeaf, AllowsRule, IsWellFormed}
use Rattle.tree_model.specs.Cost.{is_kernel, is_plain, node_root, products_cost}
use Rattle.tree_model.specs.Cost as trees
use Rattle.tree_model.specs.Whole.{left_of, right_of, AllowsRuleOf, IsTreeOf, cost_in, node_on, node_transform}
use Rattle.tree_model.specs.Whole.{rooted_of}
use Rattle.tree_model.proofs.FlatTrees.{well_formed}
use Rattle.tree_model.proofs.PowerOfTwo.{walsh_size}
use Rattle.tree_model.proofs.Sizes.{one_le_size_of}
use Rattle.tree_model.proofs.Splits.{div-product}
use Rattle.tree_model.specs.declared.tree.Rule.{Rule}
use Rattle.tree_model.specs.declared.tree.Rule.TheVariants.{Gt, Ct, Split, Dim}

-- ---- sizes

work-size : (p : Request) (t : Breakdown) → work_size (node_work p t) ≡ size_of t
work-size p t = pick (is_kernel p (size_of t)) p.kind
  where
    pick : (b : Bool) (kind : Kind) →
        work_size (if b then kernel (node_of p t) else long_work p kind t) ≡ size_of t
    pick true kind = rooted_size p t
    pick false Dft = refl
    pick false Wht = rooted_size p t
    pick false Idft = rooted_size p t

-- a choice between a work and parts
size-pick : (b : Bool) (l k : Layout) (n : ℕ) → layout_size l ≡ n → layout_size k ≡ n →
    layout_size (if b then l else k) ≡ n
size-pick true l k n h g = h
size-pick false l k n h g = g

pub layouts_have_size : LayoutsHaveSize
layouts_have_size p (leaf d) = work-size p (leaf d)
layouts_have_size p (node rule a b) =
    size-pick (is_kernel p (size_of a * size_of b)) _ _ (size_of a * size_of b) (work-size p (node rule a b))
    (ap₂ (λ x y. x * y) (layouts_have_size (left_of rule p) a) (layouts_have_size (right_of rule p) b))

-- ---- kernels, works and parts

kernel-work : (p : Request) (t : Breakdown) → is_kernel p (size_of t) ≡ true → node_work p t ≡ kernel (node_of p t)
kernel-work p t short = ap (λ b. if b then kernel (node_of p t) else long_work p p.kind t) short

-- a node is a kernel, or has parts
pub node-pick : (P : Layout → Type 0) (p : Request) (rule : Rule) (a b : Breakdown) →
    (is_kernel p (size_of a * size_of b) ≡ true → P (work (kernel (node_of p (node rule a b))))) →
    (is_kernel p (size_of a * size_of b) ≡ false →
    P (by rule (node_root p (size_of a * size_of b)) (layout_of (left_of rule p) a) (layout_of (right_of rule p) b))) →
    P (layout_of p (node rule a b))
node-pick P p rule a b short long = pick (is_kernel p (size_of a * size_of b)) refl
  where
    pick : (c : Bool) → is_kernel p (size_of a * size_of b) ≡ c →
        P (if c then work (node_work p (node rule a b))
        else by rule (node_root p (size_of a * size_of b)) (layout_of (left_of rule p) a)
        (layout_of (right_of rule p) b))
    pick true is = subst (λ w. P (work w)) (sym (kernel-work p (node rule a b) is)) (short is)
    pick false is = long is

-- a leaf is a kernel, or a longer work
leaf-pick : (P : PlainWork → Type 0) (p : Request) (d : ℕ) →
    (is_kernel p d ≡ true → P (kernel (node_of p (leaf d)))) →
    (is_kernel p d ≡ false → P (long_work p p.kind (leaf d))) → P (node_work p (leaf d))
leaf-pick P p d short long = pick (is_kernel p d) refl
  where
    pick : (c : Bool) → is_kernel p d ≡ c →
        P (if c then kernel (node_of p (leaf d)) else long_work p p.kind (leaf d))
    pick true is = short is
    pick false is = long is

-- ---- the law of each rule

-- the root of a part is a power of that of the whole
node_root-part : (m w n q r s t : ℕ) → 0 < r → 0 < t → r * s ≡ t → q * t ≡ n →
    power_mod m (power_mod m w (n / t)) s ≡ power_mod m w (n / r)
node_root-part m w n q r s t h g e f =
    let outer : r * (q * s) ≡ q * (r * s) = omega arith in
    let part : r * (q * s) ≡ n = outer ∙ ap (λ x. q * x) e ∙ f in
    ap (λ x. power_mod m (power_mod m w x) s) (div-product n t q g (omega (arith, f)))
    ∙ power_mod_of_power m w q s
    ∙ ap (power_mod m w) (sym (div-product n r (q * s) h part))

node_root-whole : (m w n q t : ℕ) → 0 < t → q * t ≡ n → power_mod m (power_mod m w (n / t)) t ≡ power_mod m w n
node_root-whole m w n q t g f =
    ap (λ x. power_mod m (power_mod m w x) t) (div-product n t q g (omega (arith, f)))
    ∙ power_mod_of_power m w q t ∙ ap (power_mod m w) f

-- a part of a transform, as its rule takes it apart
record IsPart (m w n q r s : ℕ) : Type 0 where
  modulus : 2 ≤ m
  left : 0 < r
  right : 0 < s
  product : 0 < r * s
  whole : q * (r * s) ≡ n

rule_law : (kind : Kind) (rule : Rule) (m w n q r s : ℕ) (x : List ℕ) → AllowsRule kind rule r s →
    (kind ≡ Wht → IsPowerOfTwo s) → HasRoot kind m w n → IsPart m w n q r s →
    transform kind m (r * s) (power_mod m w (n / (r * s))) x
    ≡ rule_on rule m r s (power_mod m w (n / (r * s))) (transform kind m r (power_mod m w (n / r)))
    (transform kind m s (power_mod m w (n / s))) x
rule_law Dft Gt m w n q r s x allowed shape root p =
    good_thomas m r s (power_mod m w (n / (r * s))) x
    (node_root-whole m w n q (r * s) p.product p.whole ∙ root ∙ sym (mod-eq_of_lt (omega (arith, p.modulus)))) allowed
    ∙ ap₂ (λ u v. rule_on Gt m r s (power_mod m w (n / (r * s))) (transform Dft m r u) (transform Dft m s v) x)
    (node_root-part m w n q r s (r * s) p.left p.product refl p.whole)
    (node_root-part m w n q s r (r * s) p.right p.product (mul_comm s r) p.whole)
rule_law Dft Ct m w n q r s x allowed shape root p =
    cooley_tukey m r s (power_mod m w (n / (r * s))) x
    (node_root-whole m w n q (r * s) p.product p.whole ∙ root ∙ sym (mod-eq_of_lt (omega (arith, p.modulus))))
    ∙ ap₂ (λ u v. rule_on Ct m r s (power_mod m w (n / (r * s))) (transform Dft m r u) (transform Dft m s v) x)
    (node_root-part m w n q r s (r * s) p.left p.product refl p.whole)
    (node_root-part m w n q s r (r * s) p.right p.product (mul_comm s r) p.whole)
rule_law Dft Split m w n q r s x allowed shape root p = absurd allowed
rule_law Dft Dim m w n q r s x allowed shape root p = absurd allowed
rule_law Wht Gt m w n q r s x allowed shape root p = absurd allowed
rule_law Wht Ct m w n q r s x allowed shape root p = absurd allowed
rule_law Wht Split m w n q r s x allowed shape root p =
    split m r s (power_mod m w (n / (r * s))) x (omega (arith, p.modulus)) (shape refl)
rule_law Wht Dim m w n q r s x allowed shape root p = absurd allowed
rule_law Idft rule m w n q r s x allowed shape root p = absurd allowed

-- a rule makes the same of parts that do the same
pub rule_on-same : (rule : Rule) (m r s w : ℕ) (a b f g : Operator) (x : List ℕ) → ((y : List ℕ) → a y ≡ f y) →
    ((y : List ℕ) → b y ≡ g y) → rule_on rule m r s w a b x ≡ rule_on rule m r s w f g x
rule_on-same rule m r s w a b f g x h k =
    ap₂ (λ (u v : Operator). rule_on rule m r s w u v x) (λ i y. h y i) (λ i y. k y i)

-- ---- what a layout does

-- a node of one size does what its rule makes of its parts
flat_rule : (p : Request) (rule : Rule) (a b : Breakdown) (x : List ℕ) → IsNodeTree p (node rule a b) →
    p.dimensions ≡ One →
    AllowsRule p.kind rule (size_of a) (size_of b) → IsTreeOf p a → IsTreeOf p b →
    node_transform p (size_of a * size_of b) x
    ≡ rule_on rule p.modulus (size_of a) (size_of b) (node_root p (size_of a * size_of b)) (node_on p a)
    (node_on p b) x
flat_rule p rule a b x h one allowed left right =
    let r = size_of a in
    let s = size_of b in
    let two_r : 2 ≤ r = h.tree.0 in
    let two_s : 2 ≤ s = h.tree.1 in
    let two_m : 2 ≤ p.modulus = h.valid.in_range.modulus.0 in
    let part : IsPart p.modulus p.root p.size (p.size / (r * s)) r s = record {
      modulus = two_m;
      left = omega (arith, two_r);
      right = omega (arith, two_s);
      product = mul-lt 0 0 r s (omega (arith, two_r)) (omega (arith, two_s));
      whole = times_size p (node rule a b) h;
    } in
    rule_law p.kind rule p.modulus p.root p.size (p.size / (r * s)) r s x allowed
    (λ wht. walsh_size b (subst (λ kind. IsWellFormed kind b) wht (well_formed p b one right))) h.valid.root part
    ∙ rule_on-same rule p.modulus r s (node_root p (r * s)) (node_transform p r) (node_transform p s) (node_on p a)
    (node_on p b) x
    (λ y. sym (flat_node p a y one left)) (λ y. sym (flat_node p b y one right))

-- so does every node
node_by_rule : (p : Request) (rule : Rule) (a b : Breakdown) (x : List ℕ) → IsNodeTree p (node rule a b) →
    node_on p (node rule a b) x
    ≡ rule_on rule p.modulus (size_of a) (size_of b) (node_root p (size_of a * size_of b))
    (node_on (left_of rule p) a) (node_on (right_of rule p) b) x
node_by_rule p Gt a b x h = flat_rule p Gt a b x h h.tree.2.0 h.tree.2.1 h.tree.3 h.tree.4
node_by_rule p Ct a b x h = flat_rule p Ct a b x h h.tree.2.0 h.tree.2.1 h.tree.3 h.tree.4
node_by_rule p Split a b x h = flat_rule p Split a b x h h.tree.2.0 h.tree.2.1 h.tree.3 h.tree.4
node_by_rule p Dim a b x h = refl

long_does : (p : Request) (d : ℕ) (kind : Kind) (x : List ℕ) → p.kind ≡ kind →
    work_on p.modulus (long_work p kind (leaf d)) x ≡ node_on p (leaf d) x
long_does p d Dft x is = ap (λ kind. transform kind p.modulus d (node_root p d) x) (sym is)
long_does p d Wht x is = refl
long_does p d Idft x is = refl

pub layouts_do : LayoutsDo
layouts_do p (leaf d) x h =
    leaf-pick (λ w. work_on p.modulus w x ≡ node_on p (leaf d) x) p d
    (λ short. rooted_on p (leaf d) x h) (λ long. long_does p d p.kind x refl)
layouts_do p (node rule a b) x h =
    let r = size_of a in
    let s = size_of b in
    let w = node_root p (r * s) in
    let lp = left_of rule p in
    let rp = right_of rule p in
    let left = layout_on p.modulus (layout_of lp a) in
    let right = layout_on p.modulus (layout_of rp b) in
    node-pick (λ l. layout_on p.modulus l x ≡ node_on p (node rule a b) x) p rule a b
    (λ short. rooted_on p (node rule a b) x h)
    (λ long. ap₂ (λ u v. rule_on rule p.modulus u v w left right x) (layouts_have_size lp a) (layouts_have_size rp b)
    ∙ rule_on-same rule p.modulus r s w left right (node_on lp a) (node_on rp b) x
    (λ y. ap (λ m. layout_on m (layout_of lp a) y) (sym (left_fields p rule a b h).modulus)
    ∙ layouts_do lp a y (left_tree p rule a b h))
    (λ y. ap (λ m. layout_on m (layout_of rp b) y) (sym (right_fields p rule a b h).modulus)
    ∙ layouts_do rp b y (right_tree p rule a b h))
    ∙ sym (node_by_rule p rule a b x h))

-- ---- what it costs

-- in straight-line code
pub kernel-priced : (p : Request) (t : Breakdown) → IsNodeTree p t → is_kernel p (size_of t) ≡ true →
    trees_cost p.weight p.modulus (rooted_of p t) ≡ cost_in p t
kernel-priced p t h short = rooted_cost p t h short

-- and row by row
rows-cost : (weight m d : ℕ) (p : Request) (kind : Kind) → AllowsLeaf kind d → 2 < d →
    work_cost weight m (long_work p kind (leaf d)) ≡ d * d * (1 + weight)
rows-cost weight m d p Dft h more = omega arith
rows-cost weight m d p Wht h more = absurd (omega (arith, h.1, more))
rows-cost weight m d p Idft h more = absurd h

-- a leaf that is no kernel is longer than the limit, since the root of a shared request is no leaf
long-leaf : (p : Request) (d : ℕ) → FitsWhole p (leaf d) → is_kernel p d ≡ false → p.unroll < d
long-leaf p d root long =
    elim (cases_lt p.unroll d) [
      | inl over ↦ over
      | inr short ↦
          let both : (d ≡ p.size) × (is_plain p ≡ false) = grind (arith, nat_tests, long, short) in
          absurd (root both.0 both.1)
    ]

long-priced : (p : Request) (d : ℕ) → IsNodeTree p (leaf d) → p.unroll < d →
    work_cost p.weight p.modulus (long_work p p.kind (leaf d)) ≡ cost_in p (leaf d)
long-priced p d h over =
    let low = h.valid.in_range.unroll.0 in
    let n : nat_le d p.unroll ≡ false = grind (arith, nat_tests) in
    rows-cost p.weight p.modulus d p p.kind h.tree.1 (omega (arith, over, low))
    ∙ sym (ap (λ b. if b then d * (d - 1) + products_cost p p.kind 0 (node_root p d) d d else d * d * (1 + p.weight)) n)

pub leaf-priced : (p : Request) (d : ℕ) → IsNodeTree p (leaf d) → FitsWhole p (leaf d) →
    work_cost p.weight p.modulus (node_work p (leaf d)) ≡ cost_in p (leaf d)
leaf-priced p d h root =
    leaf-pick (λ w. work_cost p.weight p.modulus w ≡ cost_in p (leaf d)) p d
    (λ short. kernel-priced p (leaf d) h short) (λ long. long-priced p d h (long-leaf p d root long))

-- what a rule adds outside a kernel
outer_rule_cost : (p : Request) (rule : Rule) (r s : ℕ) → is_kernel p (r * s) ≡ false →
    trees.rule_cost p rule r s ≡ layouts.rule_cost p.weight rule (r * s)
outer_rule_cost p Gt r s e = refl
outer_rule_cost p Ct r s e =
    ap (λ (b : Bool). if b then products_cost p Dft 1 (node_root p (r * s)) r s else p.weight * (r * s)) e
outer_rule_cost p Split r s e = refl
outer_rule_cost p Dim r s e = refl

pub layouts_cost : LayoutsCost
layouts_cost p (leaf d) h root = leaf-priced p d h root
layouts_cost p (node rule a b) h root =
    let r = size_of a in
    let s = size_of b in
    let lp = left_of rule p in
    let rp = right_of rule p in
    let left_same = left_fields p rule a b h in
    let right_same = right_fields p rule a b h in
    let left : layout_cost p.weight p.modulus (layout_of lp a) ≡ cost_in lp a =
    sym (ap₂ (λ weight m. layout_cost weight m (layout_of lp a)) left_same.weight left_same.modulus)
    ∙ layouts_cost lp a (left_tree p rule a b h) (left_fits p rule a b h) in
    let right : layout_cost p.weight p.modulus (layout_of rp b) ≡ cost_in rp b =
    sym (ap₂ (λ weight m. layout_cost weight m (layout_of rp b)) right_same.weight right_same.modulus)
    ∙ layouts_cost rp b (right_tree p rule a b h) (right_fits p rule a b h) in
    node-pick (λ l. layout_cost p.weight p.modulus l ≡ cost_in p (node rule a b)) p rule a b
    (λ short. kernel-priced p (node rule a b) h short)
    (λ outer.
    ap₂ (λ u v. v * layout_cost p.weight p.modulus (layout_of lp a)
    + u * layout_cost p.weight p.modulus (layout_of rp b) + layouts.rule_cost p.weight rule (u * v))
    (layouts_have_size lp a) (layouts_have_size rp b)
    ∙ ap₂ (λ x y. s * x + r * y + layouts.rule_cost p.weight rule (r * s)) left right
    ∙ ap (λ k. s * cost_in lp a + r * cost_in rp b + k) (sym (outer_rule_cost p rule r s outer)))

-- ---- it can be made

kernel-good : (p : Request) (t : Breakdown) → IsNodeTree p t → 1 ≤ size_of t →
    IsGoodLayout p.modulus (work (kernel (node_of p t)))
kernel-good p t h some =
    let size = rooted_size p t in
    (omega (arith, some, size), record { trees = rooted_made p t h; source = (refl, node_kind p t h, node_stands p t h) })

long-good : (m d : ℕ) (p : Request) (kind : Kind) → 2 < d → AllowsLeaf kind d → IsRoot kind m d (node_root p d) →
    IsGoodLayout m (work (long_work p kind (leaf d)))
long-good m d p Dft more allowed is = (omega (arith, more), (omega (arith, more), is))
long-good m d p Wht more allowed is = absurd (omega (arith, allowed.1, more))
long-good m d p Idft more allowed is = absurd allowed

can-part : (kind : Kind) (r s : ℕ) → AllowsRule kind Gt r s → CanPart Gt r s
can-part Dft r s h = h
can-part Wht r s h = absurd h
can-part Idft r s h = absurd h

can-part-of : (p : Request) (rule : Rule) (r s : ℕ) → AllowsRuleOf p rule r s → CanPart rule r s
can-part-of p Gt r s h = can-part p.kind r s h.1
can-part-of p Ct r s h = tt
can-part-of p Split r s h = tt
can-part-of p Dim r s h = tt

pub layouts_are_good : LayoutsAreGood
layouts_are_good p (leaf d) h root =
    leaf-pick (λ w. IsGoodLayout p.modulus (work w)) p d
    (λ short. kernel-good p (leaf d) h (one_le_size_of p.kind (leaf d) h.tree.1))
    (λ long.
    let over = long-leaf p d root long in
    let low = h.valid.in_range.unroll.0 in
    long-good p.modulus d p p.kind (omega (arith, over, low)) h.tree.1 (root-of p (leaf d) h.valid h.divides))
layouts_are_good p (node rule a b) h root =
    let r = size_of a in
    let s = size_of b in
    let lp = left_of rule p in
    let rp = right_of rule p in
    let high = size-le p (node rule a b) h in
    let most : p.size ≤ max_size = h.valid.in_range.size.1 in
    let less = left_less p rule a b h in
    let good : IsGoodRule rule r s = record {
      left = h.tree.0;
      right = h.tree.1;
      parts = can-part-of p rule r s h.tree.2;
      small = omega (arith, high, most);
    } in
    node-pick (IsGoodLayout p.modulus) p rule a b (λ short. kernel-good p (node rule a b) h (omega (arith, less)))
    (λ long. (
      subst (λ v. IsGoodRule rule (layout_size (layout_of lp a)) v) (sym (layouts_have_size rp b))
          (subst (λ u. IsGoodRule rule u s) (sym (layouts_have_size lp a)) good),
      subst (λ m. IsGoodLayout m (layout_of lp a)) (left_fields p rule a b h).modulus
          (layouts_are_good lp a (left_tree p rule a b h) (left_fits p rule a b h)),
      subst (λ m. IsGoodLayout m (layout_of rp b)) (right_fields p rule a b h).modulus
          (layouts_are_good rp b (right_tree p rule a b h) (right_fits p rule a b h)),
    ))
