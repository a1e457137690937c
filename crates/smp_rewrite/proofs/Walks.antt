-- The walk over a tree's formula gives the steps of its layout.
use Rattle.std.proofs.Common.{◌≡◌, ℕ, ◌*◌, ◌/◌, ◌<◌, ◌≤◌, Bool, true, false, List, [], ◌∷◌, ◌++◌, refl, sym, ap, ap₂}
use Rattle.std.proofs.Common.{subst, ◌∙◌, arith, if◌then◌else◌, mul_comm, append_assoc}
use Rattle.std.specs.Prelude.{None}
use Rattle.std.proofs.Math.Nat.{mul-div_right}
use Rattle.breakdown.specs.Expansion.{closed_formula, expansion, formula_of, leaf_formula, rule_formula}
use Rattle.breakdown.specs.Law.{IsAskedFormula}
use Rattle.breakdown.proofs.Asked.{closed_whole, formula_asked}
use Rattle.breakdown.proofs.Meaning.{expansion_meaning}
use Rattle.matrix_meaning.proofs.Asked.{asked_by_forward}
use Rattle.matrix_meaning.proofs.CooleyTukey.{cooley_tukey}
use Rattle.matrix_meaning.proofs.GoodThomas.{good_thomas}
use Rattle.matrix_meaning.proofs.Requests.{forward_is_valid}
use Rattle.matrix_meaning.proofs.WalshHadamard.{split}
use Rattle.matrix_meaning.specs.Valid.{IsValid}
use Rattle.tree_model.specs.Chosen.{IsWholeTree}
use Rattle.tree_model.proofs.FlatTrees.{flat_trees, is_tree}
use Rattle.tree_model.proofs.NodesAsked.{nodes_do_what_is_asked}
use Rattle.matrix_meaning.specs.Parts.{forward_of}
use Rattle.matrix_meaning.specs.declared.Kind.{Kind}
use Rattle.matrix_meaning.specs.declared.Kind.TheVariants.{Dft, Wht, Idft}
use Rattle.matrix_meaning.specs.declared.Request.{Request}
use Rattle.smp_rewrite.specs.Walk.{body_of, closing_in, node_steps, tree_steps}
use Rattle.spl_ast.specs.Formula.{Formula}
use Rattle.smp_rewrite.specs.Layout.Tree.{Layout, work, by, layout_size, layout_of, node_work}
use Rattle.smp_rewrite.specs.Layout.Step.{PlainStep, step, turns, twiddles, thomas_in, thomas_out, rule_steps}
use Rattle.smp_rewrite.specs.Layout.Step.{steps_of}
use Rattle.smp_rewrite.specs.Layout.Whole.{factor_by}
use Rattle.smp_rewrite.proofs.LayoutLemmas.Layouts.{layouts_have_size}
use Rattle.operators.specs.Paths.Tensors.{Path}
use Rattle.operators.specs.declared.paths.Tensor.TheVariants.{Blocks, Columns}
use Rattle.tree_model.specs.Breakdown.{Breakdown, leaf, node, size_of, IsTree}
use Rattle.tree_model.specs.Cost.{is_kernel, node_root}
use Rattle.tree_model.specs.Whole.{left_of, right_of}
use Rattle.tree_model.specs.declared.tree.Rule.{Rule}
use Rattle.tree_model.specs.declared.tree.Rule.TheVariants.{Gt, Ct, Split, Dim}

-- ---- the formula of a rule

second_of : (r s : ℕ) → 0 < r → r * s / r ≡ s
second_of r s positive = mul-div_right s positive

first_of : (r s : ℕ) → 0 < s → r * s / s ≡ r
first_of r s positive = ap (λ n. n / s) (mul_comm r s) ∙ mul-div_right r positive

-- it gives the steps of its parts, and what the rule puts round them
rule_walk : (p : Request) (rule : Rule) (path : Path) (a b : Breakdown) (r s w : ℕ) (f g : Formula) → 0 < r → 0 < s →
    node_steps p path (node rule a b) (rule_formula rule r s w f g)
    ≡ rule_steps rule path r s w (tree_steps (left_of rule p) (path ++ Columns s ∷ []) a f)
    (tree_steps (right_of rule p) (path ++ Blocks r ∷ []) b g)
rule_walk p Gt path a b r s w f g some_r some_s =
    let left = tree_steps p (path ++ Columns s ∷ []) a f in
    let right = tree_steps p (path ++ Blocks r ∷ []) b g in
    ap (λ ss. step path (thomas_in r s) ∷ ss) (append_assoc right left (step path (thomas_out r s) ∷ []))
rule_walk p Ct path a b r s w f g some_r some_s =
    let left = tree_steps p (path ++ Columns s ∷ []) a f in
    let right = tree_steps p (path ++ Blocks r ∷ []) b g in
    ap₂ (λ n k. step path (turns r n) ∷ ((right ++ step path (twiddles k s w) ∷ []) ++ left))
    (second_of r s some_r) (first_of r s some_s)
    ∙ ap (λ ss. step path (turns r s) ∷ ss) (append_assoc right (step path (twiddles r s w) ∷ []) left)
rule_walk p Split path a b r s w f g some_r some_s = refl
rule_walk p Dim path a b r s w f g some_r some_s = refl

-- ---- the formula of a tree

steps-pick : (b : Bool) (path : Path) (l k : Layout) (ss ts : List PlainStep) → ss ≡ steps_of path l →
    ts ≡ steps_of path k → (if b then ss else ts) ≡ steps_of path (if b then l else k)
steps-pick true path l k ss ts h g = h
steps-pick false path l k ss ts h g = g

-- a rule puts the same round the steps of parts whose sizes are equal
rule-sized : (rule : Rule) (path : Path) (r s u v w : ℕ) (a b : Path → List PlainStep) (left right : List PlainStep) →
    u ≡ r → v ≡ s → left ≡ a (path ++ Columns s ∷ []) → right ≡ b (path ++ Blocks r ∷ []) →
    rule_steps rule path r s w left right
    ≡ rule_steps rule path u v w (a (path ++ Columns v ∷ [])) (b (path ++ Blocks u ∷ []))
rule-sized rule path r s u v w a b left right h g on_left on_right =
    ap₂ (rule_steps rule path r s w) on_left on_right
    ∙ ap₂ (λ x y. rule_steps rule path x y w (a (path ++ Columns y ∷ [])) (b (path ++ Blocks x ∷ []))) (sym h) (sym g)

pub tree_walk : (p : Request) (path : Path) (t : Breakdown) → IsTree t →
    tree_steps p path t (expansion p t) ≡ steps_of path (layout_of p t)
tree_walk p path (leaf d) h = refl
tree_walk p path (node rule a b) h =
    let r = size_of a in
    let s = size_of b in
    let w = node_root p (r * s) in
    let lp = left_of rule p in
    let rp = right_of rule p in
    let two_r : 2 ≤ r = h.0 in
    let two_s : 2 ≤ s = h.1 in
    steps-pick (is_kernel p (r * s)) path (work (node_work p (node rule a b)))
    (by rule w (layout_of lp a) (layout_of rp b)) _ _ refl
    (rule_walk p rule path a b r s w (expansion lp a) (expansion rp b) (omega (arith, two_r)) (omega (arith, two_s))
    ∙ rule-sized rule path r s (layout_size (layout_of lp a)) (layout_size (layout_of rp b)) w
    (λ q. steps_of q (layout_of lp a)) (λ q. steps_of q (layout_of rp b)) _ _
    (layouts_have_size lp a) (layouts_have_size rp b)
    (tree_walk lp (path ++ Columns s ∷ []) a h.2)
    (tree_walk rp (path ++ Blocks r ∷ []) b h.3))

-- ---- the factor at the end

-- a formula has no factor at its end
record IsOpen (f : Formula) : Type 0 where
  factor : closing_in f ≡ None
  body : body_of f ≡ f

leaf_open : (kind : Kind) (d w : ℕ) → IsOpen (leaf_formula kind d w)
leaf_open Dft d w = record { factor = refl; body = refl }
leaf_open Wht d w = record { factor = refl; body = refl }
leaf_open Idft d w = record { factor = refl; body = refl }

rule_open : (rule : Rule) (r s w : ℕ) (f g : Formula) → IsOpen (rule_formula rule r s w f g)
rule_open Gt r s w f g = record { factor = refl; body = refl }
rule_open Ct r s w f g = record { factor = refl; body = refl }
rule_open Split r s w f g = record { factor = refl; body = refl }
rule_open Dim r s w f g = record { factor = refl; body = refl }

-- that of a tree has none
tree_open : (p : Request) (t : Breakdown) → IsOpen (expansion p t)
tree_open p (leaf d) = leaf_open p.kind d (node_root p d)
tree_open p (node rule a b) =
    rule_open rule (size_of a) (size_of b) (node_root p (size_of a * size_of b))
    (expansion (left_of rule p) a) (expansion (right_of rule p) b)

-- that of a request has the factor of its kind
record IsClosed (kind : Kind) (c : Request) (f g : Formula) : Type 0 where
  factor : closing_in g ≡ factor_by kind c
  body : body_of g ≡ f

closed_by : (kind : Kind) (c : Request) (f : Formula) → IsOpen f →
    IsClosed kind c f (closed_formula kind c.modulus c.size f)
closed_by Dft c f h = record { factor = h.factor; body = h.body }
closed_by Wht c f h = record { factor = h.factor; body = h.body }
closed_by Idft c f h = record { factor = refl; body = refl }

module _ (c : Request) (t : Breakdown) (size : size_of t ≡ c.size) where
  whole : formula_of c t ≡ closed_formula c.kind c.modulus c.size (expansion (forward_of c) t)
  whole = closed_whole c (size_of t) (expansion (forward_of c) t) size

  pub whole_factor : closing_in (formula_of c t) ≡ factor_by c.kind c
  whole_factor =
      ap closing_in whole ∙ (closed_by c.kind c (expansion (forward_of c) t) (tree_open (forward_of c) t)).factor

  pub whole_body : body_of (formula_of c t) ≡ expansion (forward_of c) t
  whole_body =
      ap body_of whole ∙ (closed_by c.kind c (expansion (forward_of c) t) (tree_open (forward_of c) t)).body

  -- the walk gives the steps of the request's layout
  pub whole_walk : IsTree t →
      tree_steps (forward_of c) [] t (body_of (formula_of c t)) ≡ steps_of [] (layout_of (forward_of c) t)
  whole_walk h = ap (tree_steps (forward_of c) [] t) whole_body ∙ tree_walk (forward_of c) [] t h

-- ---- the formula of a request's whole tree

-- the formula does what the request asks for
pub whole_formula : (c : Request) (t : Breakdown) (f : Formula) → IsValid c → IsWholeTree c t → f ≡ formula_of c t →
    IsAskedFormula c f
whole_formula c t f valid h is =
    subst (IsAskedFormula c) (sym is)
    (formula_asked (expansion_meaning cooley_tukey good_thomas split flat_trees) nodes_do_what_is_asked
    asked_by_forward c t valid (forward_is_valid c valid) h.tree h.size)

-- the walk over it gives the steps of the layout
pub whole_steps : (c p : Request) (t : Breakdown) (f : Formula) → IsWholeTree c t → p ≡ forward_of c →
    f ≡ formula_of c t → tree_steps p [] t (body_of f) ≡ steps_of [] (layout_of (forward_of c) t)
whole_steps c p t f h forward is =
    ap₂ (λ (q : Request) (g : Formula). tree_steps q [] t (body_of g)) forward is
    ∙ whole_walk c t h.size (is_tree (forward_of c) t h.tree)
