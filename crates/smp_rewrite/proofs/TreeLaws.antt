-- The formula of a whole: what it does, its equal shares, and its shapes; and that the layouts of trees can be shared.
-- request admits can be shared.
use Rattle.std.proofs.Common.{◌≡◌, ◌≢◌, ◌*◌, ◌/◌, ◌%◌, ◌<◌, ◌≤◌, List, inl, inr, ◌+◌, ap₂, ℕ, arith, refl, sym, ap}
use Rattle.std.proofs.Common.{subst, ◌∙◌, [], true, false}
use Rattle.std.proofs.Math.Nat.{mul-mod_right, mul-div_right, zero-div}
use Rattle.std.proofs.lemmas.Bool.Decides.{nat_tests}
use Rattle.smp_rewrite.specs.Layout.Tree.{Layout, layout_size, layout_on, layout_of}
use Rattle.smp_rewrite.specs.Layout.Whole.{Whole, closed_on, closing_cost, whole_on}
use Rattle.smp_rewrite.specs.Cut.{layout_smp, smp_of}
use Rattle.smp_rewrite.specs.Smp.{by_phase, shares_in, smp_on}
use Rattle.std.specs.Prelude.{◌∷◌, ◌==◌, if◌then◌else◌, Bool, Option, None, Some}
use Rattle.std.specs.List.{sum}
use Rattle.std.proofs.lemmas.Bool.{cases_eq}
use Rattle.smp_rewrite.specs.Layout.Step.{steps_of}
use Rattle.sigma_spl.specs.Shared.Targets.{target_of}
use Rattle.operators.specs.declared.target.Target.{Target}
use Rattle.smp_rewrite.proofs.LayoutLemmas.StepCosts.{steps_cost}
use Rattle.smp_rewrite.proofs.LayoutLemmas.StepMeanings.{steps_do}
use Rattle.smp_rewrite.specs.Laws.{HasEqualParts, LayoutsFit, SmpTransforms, SmpCosts, SmpShaped}
use Rattle.smp_rewrite.specs.Fits.{RuleHasParts, RootHasParts, CanShareLayout}
use Rattle.matrix_meaning.specs.declared.Kind.{Kind}
use Rattle.matrix_meaning.specs.declared.Kind.TheVariants.{Dft, Wht, Idft}
use Rattle.matrix_meaning.specs.declared.Request.{Request}
use Rattle.matrix_meaning.specs.Parts.{forward_by, forward_of}
use Rattle.smp_rewrite.proofs.LayoutLemmas.Layouts.{layouts_have_size, node-pick}
use Rattle.smp_rewrite.proofs.LayoutLemmas.Wholes.{forward_fits}
use Rattle.tree_model.specs.Admissible.{RootFits, RuleFits}
use Rattle.tree_model.specs.Breakdown.{Breakdown, leaf, node, size_of}
use Rattle.tree_model.specs.Cost.{is_plain, is_kernel}
use Rattle.tree_model.specs.Whole.{left_of, right_of}
use Rattle.tree_model.specs.declared.tree.Rule.{Rule}
use Rattle.tree_model.specs.declared.tree.Rule.TheVariants.{Gt, Ct, Split, Dim}
use Rattle.tree_model.proofs.WholeTrees.{forward_plain, forward_size}
use Rattle.smp_rewrite.proofs.Dealt.{dealt_steps, dealt_size}
use Rattle.smp_rewrite.proofs.Factors.{CanShare, cut-on}
use Rattle.smp_rewrite.proofs.Shapes.{cut_shape}
use Rattle.smp_rewrite.proofs.Shares.{cut_share, shares_in-append}
use Rattle.smp_rewrite.proofs.Sized.{AreOfSize, of_size}

several : (p : ℕ) → 1 ≤ p → p ≢ 1 → 1 < p
several p low apart = omega (arith, low, apart)

can_share : (h : Target) (l : Layout) → CanShareLayout h l → CanShare h.procs h.line (steps_of [] l)
can_share h l k = λ apart. dealt_steps h l (several h.procs k.procs apart) k

sized : (h : Target) (l : Layout) → CanShareLayout h l → AreOfSize h.size (steps_of [] l)
sized h l k = of_size h.size [] l k.size

pub smp_transforms : SmpTransforms
smp_transforms h w x k =
    let l = w.layout in
    cut-closed h w x
    (cut-on h.modulus h (steps_of [] l) x (omega (arith, k.some)) (sized h l k) (can_share h l k)
    ∙ steps_do h.modulus [] l x)
    k.size
  where
    cut-closed : (h : Target) (w : Whole) (x : List ℕ) →
        smp_on h.modulus (layout_smp h w.layout) x ≡ layout_on h.modulus w.layout x →
        layout_size w.layout ≡ h.size → smp_on h.modulus (smp_of h w) x ≡ whole_on h.modulus w x
    cut-closed h w x e size =
        ap (closed_on h.modulus h.size w.factor) e
        ∙ ap (λ n. closed_on h.modulus n w.factor (layout_on h.modulus w.layout x)) (sym size)

-- each processor has an equal part of the words
parts : (h : Target) (l : Layout) → CanShareLayout h l → h.size ≡ h.procs * (h.size / h.procs)
parts h l k =
    elim (cases_eq h.procs 1) [
      | inl one ↦ sym (ap (λ p. p * (h.size / p)) one ∙ omega arith)
      | inr many ↦ dealt_size h l (several h.procs k.procs many) k
    ]

closing-share : (weight n p : ℕ) (o : Option ℕ) → 0 < p → n ≡ p * (n / p) →
    p * (closing_cost weight n o / p) ≡ closing_cost weight n o
closing-share weight n p None positive e = ap (λ k. p * k) (zero-div p) ∙ omega arith
closing-share weight n p (Some v) positive e =
    let k = weight * (n / p) in
    let whole : weight * n ≡ p * k = ap (λ n. weight * n) e ∙ turned weight p (n / p) in
    ap (λ n. p * (n / p)) whole ∙ ap (λ n. p * n) (mul-div_right k positive) ∙ sym whole
  where
    turned : (a b c : ℕ) → a * (b * c) ≡ b * (a * c)
    turned a b c = omega arith

-- the numbers of all phases together
pub sum-phases : (p first second : ℕ) → sum (by_phase p first second) ≡ first + second
sum-phases p first second = pick (p == 1)
  where
    pick : (b : Bool) → sum (if b then (first + second) ∷ [] else first ∷ second ∷ []) ≡ first + second
    pick true = let one : 0 + (first + second) ≡ first + second = omega arith in one
    pick false = let two : 0 + first + second ≡ first + second = omega arith in two

pub smp_costs : SmpCosts
smp_costs weight h w k =
    let l = w.layout in
    let p = h.procs in
    let shares =
    cut_share weight h.modulus h (steps_of [] l) (omega (arith, k.procs))
    (λ apart. dealt_size h l (several p k.procs apart) k) (sized h l k) (can_share h l k)
    ∙ steps_cost weight h.modulus [] l in
    let closing = closing-share weight h.size p w.factor (omega (arith, k.procs)) (parts h l k) in
    let f = layout_smp h l in
    let both = shares_in-append weight h.modulus p f.first f.second in
    let all = sum-phases p (shares_in weight h.modulus p f.first)
    (shares_in weight h.modulus p f.second + closing_cost weight h.size w.factor / p) in
    let grouped = regrouped _ _ _ _ _ all both in
    ap (λ n. p * n) grouped
    ∙ split p _ _
    ∙ ap₂ (λ a b. a + b) (shares ∙ omega arith) (closing ∙ ap (λ n. closing_cost weight n w.factor) (sym k.size))
  where
    split : (p a b : ℕ) → p * (a + b) ≡ p * a + p * b
    split p a b = omega arith

    regrouped : (all both first second more : ℕ) → all ≡ first + (second + more) → both ≡ first + second →
        all ≡ both + more
    regrouped all both first second more h k = omega (arith, h, k)

pub smp_shaped : SmpShaped
smp_shaped h w k =
    let l = w.layout in (
      cut_shape h (steps_of [] l) (omega (arith, k.some))
          (λ apart. ap (λ n. n % h.procs) (dealt_size h l (several h.procs k.procs apart) k)
          ∙ mul-mod_right h.procs (h.size / h.procs))
          (sized h l k) (can_share h l k),
      equal-parts h.size h.procs w.factor (parts h l k),
    )
  where
    equal-parts : (n p : ℕ) (o : Option ℕ) → n ≡ p * (n / p) → HasEqualParts n p o
    equal-parts n p None e = tt
    equal-parts n p (Some v) e = ap (λ k. k % p) e ∙ mul-mod_right p (n / p)

-- ---- the layouts of trees

pub root_kernel : (c : Request) → is_plain c ≡ false → is_kernel c c.size ≡ false
root_kernel c e = grind (arith, nat_tests)

rule-parts : (c : Request) (rule : Rule) (r s : ℕ) → RuleFits c rule r s → RuleHasParts (target_of c) rule r s
rule-parts c Gt r s fits = absurd fits
rule-parts c Ct r s fits = record { procs = fits.procs; lanes = fits.lanes }
rule-parts c Split r s fits = record { procs = fits.procs; lanes = fits.lanes }
rule-parts c Dim r s fits = record { procs = fits.procs; lanes = fits.lanes }

-- the root of a shared request has parts
tree-parts : (h : Target) (c : Request) (t : Breakdown) → is_plain c ≡ false → size_of t ≡ c.size → RootFits c t →
    ((rule : Rule) (r s : ℕ) → RuleFits c rule r s → RuleHasParts h rule r s) → RootHasParts h (layout_of c t)
tree-parts h c (leaf d) shared e fits parts = absurd fits
tree-parts h c (node rule a b) shared e fits parts =
    let outer : is_kernel c (size_of a * size_of b) ≡ false = ap (is_kernel c) e ∙ root_kernel c shared in
    node-pick (RootHasParts h) c rule a b (λ short. absurd (let clash : true ≡ false = sym short ∙ outer in cc))
    (λ long.
    subst (λ s. RuleHasParts h rule (layout_size (layout_of (left_of rule c) a)) s)
    (sym (layouts_have_size (right_of rule c) b))
    (subst (λ r. RuleHasParts h rule r (size_of b)) (sym (layouts_have_size (left_of rule c) a))
    (parts rule (size_of a) (size_of b) fits)))

-- the forward request is for the same machine
same-target : (kind : Kind) (c : Request) → target_of (forward_by kind c) ≡ target_of c
same-target Dft c = refl
same-target Wht c = refl
same-target Idft c = refl

pub layouts_fit : LayoutsFit
layouts_fit c t valid h =
    let p = forward_of c in
    record {
      size = layouts_have_size p t ∙ h.size;
      some = valid.in_range.size.0;
      small = valid.in_range.size.1;
      procs = valid.in_range.procs.0;
      line = valid.in_range.line.0;
      lanes = valid.in_range.lanes.0;
      in_line = valid.in_range.lanes_in_line;
      root = λ shared.
          let spread = forward_plain c ∙ shared in
          let size = h.size ∙ sym (forward_size c) in
          subst (λ g. RootHasParts g (layout_of p t)) (same-target c.kind c)
          (tree-parts (target_of p) p t spread size (forward_fits c t valid h size spread) (rule-parts p));
    }
