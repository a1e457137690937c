-- The formula of a tree does what the tree does.
use Rattle.std.proofs.Common.{◌≡◌, ℕ, ◌*◌, ◌/◌, ◌%◌, ◌<◌, ◌≤◌, List, refl, sym, arith, ap, ap₂, ◌∙◌, mul_comm}
use Rattle.std.proofs.Common.{mod-eq_of_lt, subst}
use Rattle.ring_mod.specs.Residue.{power_mod}
use Rattle.ring_mod.proofs.Powers.{power_mod_of_power}
use Rattle.operators.specs.Operator.{Operator, gather, scale, on_columns, on_blocks, stride}
use Rattle.operators.specs.Operator.{good_thomas_in, good_thomas_out}
use Rattle.operators.proofs.Lists.{on_columns-same, on_blocks-same}
use Rattle.matrix_meaning.specs.declared.Dimensions.{Dimensions}
use Rattle.matrix_meaning.specs.declared.Dimensions.TheVariants.{One, Two, Three, Four}
use Rattle.matrix_meaning.specs.declared.Kind.{Kind}
use Rattle.matrix_meaning.specs.declared.Kind.TheVariants.{Dft, Wht, Idft}
use Rattle.matrix_meaning.specs.declared.Request.{Request}
use Rattle.matrix_meaning.specs.Kind.{transform, IsPowerOfTwo}
use Rattle.matrix_meaning.specs.Laws.{twiddle, CooleyTukey, GoodThomas, Split as SplitLaw}
use Rattle.matrix_meaning.specs.Parts.{first_in, first_of, rest_in, rest_of}
use Rattle.matrix_meaning.specs.Valid.{IsValid, HasRoot}
use Rattle.matrix_meaning.proofs.Parts.{first_is_valid, rest_is_valid}
use Rattle.tree_model.specs.declared.tree.Rule.{Rule}
use Rattle.tree_model.specs.declared.tree.Rule.TheVariants.{Gt, Ct, Split, Dim}
use Rattle.tree_model.specs.Breakdown.{Breakdown, leaf, node, size_of, AllowsLeaf, AllowsRule, IsWellFormed}
use Rattle.tree_model.specs.Cost.{node_root}
use Rattle.tree_model.specs.Laws.{FlatTrees}
use Rattle.tree_model.specs.Whole.{node_on, node_transform, IsTreeOf}
use Rattle.tree_model.proofs.PowerOfTwo.{walsh_size}
use Rattle.tree_model.proofs.Splits.{div-product, product_div}
use Rattle.spl_ast.specs.Formula.{Formula, Product, TensorLeft, TensorRight, size_of as rows_of}
use Rattle.spl_ast.specs.Meaning.{apply}
use Rattle.breakdown.specs.Expansion.{expansion, leaf_formula, rule_formula}
use Rattle.breakdown.specs.Law.{IsNodeFormula, ExpansionIsTransform}
use Rattle.breakdown.proofs.Sizes.{rows_of_expansion, first_divides, second_divides, left_divides, right_divides}

-- operators that agree on every list agree on columns and on blocks
columns-same : (n r s : ℕ) (f g : Operator) (x : List ℕ) → n ≡ r → ((y : List ℕ) → f y ≡ g y) →
    on_columns n s f x ≡ on_columns r s g x
columns-same n r s f g x e same =
    ap (λ k. on_columns k s f x) e ∙ on_columns-same r s f g x same

blocks-same : (n r s : ℕ) (f g : Operator) (x : List ℕ) → n ≡ s → ((y : List ℕ) → f y ≡ g y) →
    on_blocks r n f x ≡ on_blocks r s g x
blocks-same n r s f g x e same =
    ap (λ k. on_blocks r k f x) e ∙ on_blocks-same r s f g x same

-- ---- roots of the nodes

module _ (c : Request) (valid : IsValid c) where
  -- the root of a node to the power of its size
  root_of_node : (d : ℕ) → c.kind ≡ Dft → c.size % d ≡ 0 → power_mod c.modulus (node_root c d) d ≡ 1 % c.modulus
  root_of_node d dft divides =
      let whole : c.size / d * d ≡ c.size = mul_comm (c.size / d) d ∙ product_div c.size d divides in
      let root : HasRoot Dft c.modulus c.root c.size =
      subst (λ kind. HasRoot kind c.modulus c.root c.size) dft valid.root in
      let small : 1 % c.modulus ≡ 1 = mod-eq_of_lt (omega (arith, valid.in_range.modulus)) in
      power_mod_of_power c.modulus c.root (c.size / d) d ∙ ap (power_mod c.modulus c.root) whole ∙ root ∙ sym small

  -- the root of a part is a power of its node's root
  root_of_first : (r s : ℕ) → 0 < r → c.size % (r * s) ≡ 0 → node_root c r ≡ power_mod c.modulus (node_root c (r * s)) s
  root_of_first r s pos divides =
      let q = c.size / (r * s) in
      let whole : r * (q * s) ≡ c.size = omega (arith, product_div c.size (r * s) divides) in
      ap (power_mod c.modulus c.root) (div-product c.size r (q * s) pos whole)
      ∙ sym (power_mod_of_power c.modulus c.root q s)

  root_of_second : (r s : ℕ) → 0 < s → c.size % (r * s) ≡ 0 →
      node_root c s ≡ power_mod c.modulus (node_root c (r * s)) r
  root_of_second r s pos divides =
      root_of_first s r pos (ap (λ n. c.size % n) (mul_comm s r) ∙ divides)
      ∙ ap (λ n. power_mod c.modulus (node_root c n) r) (mul_comm s r)

leaf_meaning : (kind : Kind) (m d w : ℕ) → AllowsLeaf kind d → (x : List ℕ) →
    apply m (leaf_formula kind d w) x ≡ transform kind m d w x
leaf_meaning Dft m d w allowed x = refl
leaf_meaning Wht m d w allowed x = refl
leaf_meaning Idft m d w allowed x = absurd allowed

-- ---- nodes of one size

-- a tree of one size does the transform of its node
flat_node : (p : Request) (t : Breakdown) → p.dimensions ≡ One → IsTreeOf p t → (x : List ℕ) →
    node_on p t x ≡ node_transform p (size_of t) x
flat_node p (leaf d) one tree x = refl
flat_node p (node Gt a b) one tree x = refl
flat_node p (node Ct a b) one tree x = refl
flat_node p (node Split a b) one tree x = refl
flat_node p (node Dim a b) one tree x = absurd (tree.2.0 one)

-- what a rule needs of the roots of its node and its parts
pub record FitRoots (kind : Kind) (m r s w left right : ℕ) : Type 0 where
  pub unit : kind ≡ Dft → power_mod m w (r * s) ≡ 1 % m
  pub first : left ≡ power_mod m w s
  pub second : right ≡ power_mod m w r
  pub power : kind ≡ Wht → IsPowerOfTwo s

module _ (by_strides : CooleyTukey) (by_factors : GoodThomas) (by_halves : SplitLaw) where
  rule_meaning : (kind : Kind) (rule : Rule) (m r s w left right : ℕ) (f g : Formula) → 0 < m → 0 < r →
      AllowsRule kind rule r s →
      FitRoots kind m r s w left right → rows_of f ≡ r → rows_of g ≡ s →
      ((y : List ℕ) → apply m f y ≡ transform kind m r left y) →
      ((y : List ℕ) → apply m g y ≡ transform kind m s right y) →
      (x : List ℕ) → apply m (rule_formula rule r s w f g) x ≡ transform kind m (r * s) w x
  rule_meaning Dft Ct m r s w left right f g pos r_pos allowed roots rows_f rows_g same_f same_g x =
      let width : r * s / r ≡ s = div-product (r * s) r s r_pos refl in
      columns-same (rows_of f) r s (apply m f) (transform Dft m r left) _ rows_f same_f
      ∙ ap (λ y. on_columns r s (transform Dft m r left) (scale m (r * s) (twiddle m s w) y))
      (blocks-same (rows_of g) r s (apply m g) (transform Dft m s right) _ rows_g same_g
      ∙ ap (λ k. on_blocks r s (transform Dft m s right) (gather (r * s) (stride r k) x)) width)
      ∙ ap₂ (λ u v. on_columns r s (transform Dft m r u)
      (scale m (r * s) (twiddle m s w) (on_blocks r s (transform Dft m s v) (gather (r * s) (stride r s) x))))
      roots.first roots.second
      ∙ sym (by_strides m r s w x (roots.unit refl))
  rule_meaning Dft Gt m r s w left right f g pos r_pos allowed roots rows_f rows_g same_f same_g x =
      ap (gather (r * s) (good_thomas_out r s))
      (columns-same (rows_of f) r s (apply m f) (transform Dft m r left) _ rows_f same_f
      ∙ ap (on_columns r s (transform Dft m r left))
      (blocks-same (rows_of g) r s (apply m g) (transform Dft m s right) _ rows_g same_g)
      ∙ ap₂ (λ u v. on_columns r s (transform Dft m r u)
      (on_blocks r s (transform Dft m s v) (gather (r * s) (good_thomas_in r s) x))) roots.first roots.second)
      ∙ sym (by_factors m r s w x (roots.unit refl) allowed)
  rule_meaning Dft Split m r s w left right f g pos r_pos allowed roots rows_f rows_g same_f same_g x = absurd allowed
  rule_meaning Dft Dim m r s w left right f g pos r_pos allowed roots rows_f rows_g same_f same_g x = absurd allowed
  rule_meaning Wht Ct m r s w left right f g pos r_pos allowed roots rows_f rows_g same_f same_g x = absurd allowed
  rule_meaning Wht Gt m r s w left right f g pos r_pos allowed roots rows_f rows_g same_f same_g x = absurd allowed
  rule_meaning Wht Split m r s w left right f g pos r_pos allowed roots rows_f rows_g same_f same_g x =
      columns-same (rows_of f) r s (apply m f) (transform Wht m r left) _ rows_f same_f
      ∙ ap (on_columns r s (transform Wht m r left))
      (blocks-same (rows_of g) r s (apply m g) (transform Wht m s right) _ rows_g same_g)
      ∙ sym (by_halves m r s w x pos (roots.power refl))
  rule_meaning Wht Dim m r s w left right f g pos r_pos allowed roots rows_f rows_g same_f same_g x = absurd allowed
  rule_meaning Idft rule m r s w left right f g pos r_pos allowed roots rows_f rows_g same_f same_g x = absurd allowed

  -- a node of one size, whose parts' formulas do what the parts do
  module _ (flat : FlatTrees) (p : Request) (valid : IsValid p) (one : p.dimensions ≡ One) where
    walsh_power : (t : Breakdown) → IsTreeOf p t → p.kind ≡ Wht → IsPowerOfTwo (size_of t)
    walsh_power t tree walsh = walsh_size t (subst (λ kind. IsWellFormed kind t) walsh ((flat p t one).0 tree))

    as_transform : (t : Breakdown) → IsTreeOf p t → IsNodeFormula p t (expansion p t) →
        (y : List ℕ) →
        apply p.modulus (expansion p t) y ≡ transform p.kind p.modulus (size_of t) (node_root p (size_of t)) y
    as_transform t tree same y = same y ∙ flat_node p t one tree y

    flat_meaning : (rule : Rule) (a b : Breakdown) → AllowsRule p.kind rule (size_of a) (size_of b) →
        2 ≤ size_of a → 2 ≤ size_of b → IsTreeOf p a → IsTreeOf p b → p.size % (size_of a * size_of b) ≡ 0 →
        IsNodeFormula p a (expansion p a) → IsNodeFormula p b (expansion p b) → (x : List ℕ) →
        apply p.modulus (rule_formula rule (size_of a) (size_of b) (node_root p (size_of a * size_of b))
        (expansion p a) (expansion p b)) x
        ≡ node_transform p (size_of a * size_of b) x
    flat_meaning rule a b allowed left right tree_a tree_b divides same_a same_b x =
        let r = size_of a in
        let s = size_of b in
        rule_meaning p.kind rule p.modulus r s (node_root p (r * s)) (node_root p r) (node_root p s)
        (expansion p a) (expansion p b)
        (omega (arith, valid.in_range.modulus)) (omega (arith, left)) allowed
        (record {
          unit = λ dft. root_of_node p valid (r * s) dft divides;
          first = root_of_first p valid r s (omega (arith, left)) divides;
          second = root_of_second p valid r s (omega (arith, right)) divides;
          power = walsh_power b tree_b;
        })
        (rows_of_expansion p a) (rows_of_expansion p b) (as_transform a tree_a same_a) (as_transform b tree_b same_b) x

-- ---- several dimensions

first_modulus : (p : Request) (ds : Dimensions) → (first_in p ds).modulus ≡ p.modulus
first_modulus p One = refl
first_modulus p (Two a b) = refl
first_modulus p (Three a b c) = refl
first_modulus p (Four a b c d) = refl

rest_modulus : (p : Request) (ds : Dimensions) → (rest_in p ds).modulus ≡ p.modulus
rest_modulus p One = refl
rest_modulus p (Two a b) = refl
rest_modulus p (Three a b c) = refl
rest_modulus p (Four a b c d) = refl

-- the formula of the first dimension, after that of the others
dim_meaning : (p first rest : Request) (a b : Breakdown) (f g : Formula) → first.modulus ≡ p.modulus →
    rest.modulus ≡ p.modulus →
    rows_of f ≡ size_of a → rows_of g ≡ size_of b → IsNodeFormula first a f → IsNodeFormula rest b g → (x : List ℕ) →
    apply p.modulus (Product (TensorLeft f (size_of b)) (TensorRight (size_of a) g)) x
    ≡ on_columns (size_of a) (size_of b) (node_on first a) (on_blocks (size_of a) (size_of b) (node_on rest b) x)
dim_meaning p first rest a b f g modulus modulus' rows_f rows_g same_f same_g x =
    let r = size_of a in
    let s = size_of b in
    columns-same (rows_of f) r s (apply p.modulus f) (node_on first a) _ rows_f
    (λ y. ap (λ m. apply m f y) (sym modulus) ∙ same_f y)
    ∙ ap (on_columns r s (node_on first a))
    (blocks-same (rows_of g) r s (apply p.modulus g) (node_on rest b) _ rows_g
    (λ y. ap (λ m. apply m g y) (sym modulus') ∙ same_g y))

-- ---- all trees

module _ (by_strides : CooleyTukey) (by_factors : GoodThomas) (by_halves : SplitLaw) (flat : FlatTrees) where
  pub expansion_meaning : ExpansionIsTransform
  expansion_meaning p (leaf d) valid tree divides x = leaf_meaning p.kind p.modulus d (node_root p d) tree.1 x
  expansion_meaning p (node Gt a b) valid tree divides x =
      flat_meaning by_strides by_factors by_halves flat p valid tree.2.0 Gt a b tree.2.1 tree.0 tree.1 tree.3 tree.4
      divides
      (expansion_meaning p a valid tree.3 (first_divides p.size (size_of a) (size_of b) divides))
      (expansion_meaning p b valid tree.4 (second_divides p.size (size_of a) (size_of b) divides))
      x
  expansion_meaning p (node Ct a b) valid tree divides x =
      flat_meaning by_strides by_factors by_halves flat p valid tree.2.0 Ct a b tree.2.1 tree.0 tree.1 tree.3 tree.4
      divides
      (expansion_meaning p a valid tree.3 (first_divides p.size (size_of a) (size_of b) divides))
      (expansion_meaning p b valid tree.4 (second_divides p.size (size_of a) (size_of b) divides))
      x
  expansion_meaning p (node Split a b) valid tree divides x =
      flat_meaning by_strides by_factors by_halves flat p valid tree.2.0 Split a b tree.2.1 tree.0 tree.1 tree.3 tree.4
      divides
      (expansion_meaning p a valid tree.3 (first_divides p.size (size_of a) (size_of b) divides))
      (expansion_meaning p b valid tree.4 (second_divides p.size (size_of a) (size_of b) divides))
      x
  expansion_meaning p (node Dim a b) valid tree divides x =
      dim_meaning p (first_of p) (rest_of p) a b (expansion (first_of p) a) (expansion (rest_of p) b)
      (first_modulus p p.dimensions) (rest_modulus p p.dimensions)
      (rows_of_expansion (first_of p) a) (rows_of_expansion (rest_of p) b)
      (expansion_meaning (first_of p) a (first_is_valid p valid tree.2.0) tree.3
      (left_divides p Dim (size_of a) (size_of b) tree.2 divides))
      (expansion_meaning (rest_of p) b (rest_is_valid p valid tree.2.0) tree.4
      (right_divides p Dim (size_of a) (size_of b) tree.2 divides))
      x
