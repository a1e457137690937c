-- The whole of a request's tree does what the request asks for, at its cost, and can be made.
use Rattle.std.proofs.Common.{◌≡◌, ℕ, ◌+◌, ◌*◌, ◌%◌, ◌≤◌, List, refl, sym, ap, ap₂, subst, ◌∙◌, arith}
use Rattle.std.proofs.Math.Nat.{mod_self}
use Rattle.matrix_meaning.specs.Asked.{asked_of}
use Rattle.matrix_meaning.specs.Parts.{forward_by, forward_of}
use Rattle.matrix_meaning.specs.Valid.{IsValid, HasUnit}
use Rattle.matrix_meaning.specs.declared.Kind.{Kind}
use Rattle.matrix_meaning.specs.declared.Kind.TheVariants.{Dft, Wht, Idft}
use Rattle.matrix_meaning.specs.declared.Request.{Request}
use Rattle.matrix_meaning.proofs.Asked.{asked_by_forward}
use Rattle.matrix_meaning.proofs.Parts.{is_of_one_size}
use Rattle.matrix_meaning.proofs.Requests.{forward_is_valid, forward_kind}
use Rattle.operators.specs.Operator.{scale}
use Rattle.ring_mod.specs.Inverse.{inverse_mod}
use Rattle.ring_mod.proofs.InverseLaws.{inverse_mod-below}
use Rattle.smp_rewrite.specs.Layout.Tree.{layout_size, layout_on, layout_cost, layout_of, IsGoodLayout}
use Rattle.kernel_gen.specs.Nodes.{IsNodeTree}
use Rattle.smp_rewrite.specs.Layout.Meaning.{FitsWhole}
use Rattle.smp_rewrite.specs.Layout.Whole.{closed_on, closing_cost, factor_by, IsGoodFactor, WholesDo, WholesCost}
use Rattle.smp_rewrite.specs.Layout.Whole.{WholesAreGood}
use Rattle.smp_rewrite.proofs.LayoutLemmas.Layouts.{layouts_have_size, layouts_do, layouts_cost, layouts_are_good}
use Rattle.tree_model.specs.Breakdown.{Breakdown, size_of}
use Rattle.tree_model.specs.Chosen.{IsWholeTree, closing_by}
use Rattle.tree_model.proofs.NodesAsked.{nodes_do_what_is_asked}
use Rattle.tree_model.proofs.WholeTrees.{admissible_of_whole, closed_cost, forward_size}
use Rattle.kernel_gen.proofs.NodeKernels.{forward_modulus}

-- ---- the forward request

by_weight : (kind : Kind) (c : Request) → (forward_by kind c).weight ≡ c.weight
by_weight Dft c = refl
by_weight Wht c = refl
by_weight Idft c = refl

pub forward_weight : (c : Request) → (forward_of c).weight ≡ c.weight
forward_weight c = by_weight c.kind c

-- a whole tree is a tree of the forward request
pub forward_tree : (c : Request) (t : Breakdown) → IsValid c → IsWholeTree c t → IsNodeTree (forward_of c) t
forward_tree c t valid h = record {
  valid = forward_is_valid c valid;
  tree = h.tree;
  divides =
      let same : size_of t ≡ (forward_of c).size = h.size ∙ sym (forward_size c) in
      ap (λ n. (forward_of c).size % n) same ∙ mod_self (forward_of c).size;
}

-- which it fits
pub forward_fits : (c : Request) (t : Breakdown) → IsValid c → IsWholeTree c t → FitsWhole (forward_of c) t
forward_fits c t valid h = by_kind c.kind refl
  where
    by_kind : (kind : Kind) → c.kind ≡ kind → FitsWhole (forward_by kind c) t
    by_kind Dft is size shared = h.root shared
    by_kind Wht is size shared = h.root shared
    by_kind Idft is size shared =
        let one = is_of_one_size c valid.in_range (λ dft. let clash : Idft ≡ Dft = sym is ∙ dft in cc) in
        let root : FitsWhole (forward_of c) t = λ _ spread. (admissible_of_whole c t one h).root refl spread in
        subst (λ kind. FitsWhole (forward_by kind c) t) is root size shared

layout_does : (c : Request) (t : Breakdown) (x : List ℕ) → IsValid c → IsWholeTree c t →
    layout_on c.modulus (layout_of (forward_of c) t) x ≡ asked_of (forward_of c) x
layout_does c t x valid h =
    let p = forward_of c in
    ap (λ m. layout_on m (layout_of p t) x) (sym (forward_modulus c))
    ∙ layouts_do p t x (forward_tree c t valid h)
    ∙ nodes_do_what_is_asked p t x (forward_is_valid c valid) (forward_kind c) h.tree (h.size ∙ sym (forward_size c))

-- ---- with the factor

whole_size : (c : Request) (t : Breakdown) → IsWholeTree c t → layout_size (layout_of (forward_of c) t) ≡ c.size
whole_size c t h = layouts_have_size (forward_of c) t ∙ h.size

module _ (c : Request) (valid : IsValid c) where
  closed_does : (kind : Kind) (n : ℕ) (x y : List ℕ) → c.kind ≡ kind → n ≡ c.size →
      y ≡ asked_of (forward_by kind c) x →
      closed_on c.modulus n (factor_by kind c) y ≡ asked_of c x
  closed_does Dft n x y is size same = same
  closed_does Wht n x y is size same = same
  closed_does Idft n x y is size same =
      let v = inverse_mod c.modulus c.size in
      ap₂ (λ k z. scale c.modulus k (λ _. v) z) size (same ∙ ap (λ kind. asked_of (forward_by kind c) x) (sym is))
      ∙ sym (asked_by_forward c x valid.in_range is)

  closing_is : (kind : Kind) (n : ℕ) → n ≡ c.size → closing_cost c.weight n (factor_by kind c) ≡ closing_by kind c
  closing_is Dft n size = refl
  closing_is Wht n size = refl
  closing_is Idft n size = ap (λ k. c.weight * k) size

  factor_good : (kind : Kind) → c.kind ≡ kind → IsGoodFactor c.modulus (factor_by kind c)
  factor_good Dft is = tt
  factor_good Wht is = tt
  factor_good Idft is =
      let two : 2 ≤ c.modulus = valid.in_range.modulus.0 in
      inverse_mod-below c.modulus c.size (omega (arith, two))
      (subst (λ kind. HasUnit kind c.modulus c.size) is valid.in_range.unit)

pub wholes_do : WholesDo
wholes_do c t x valid h =
    closed_does c valid c.kind _ x _ refl (whole_size c t h) (layout_does c t x valid h)

pub wholes_cost : WholesCost
wholes_cost c t valid h =
    let p = forward_of c in
    ap₂ (λ k n. k + n)
    (sym (ap₂ (λ weight m. layout_cost weight m (layout_of p t)) (forward_weight c) (forward_modulus c))
    ∙ layouts_cost p t (forward_tree c t valid h) (forward_fits c t valid h))
    (closing_is c valid c.kind _ (whole_size c t h))
    ∙ sym (closed_cost c t h.size)

pub wholes_are_good : WholesAreGood
wholes_are_good c t valid h = record {
  layout = subst (λ m. IsGoodLayout m (layout_of (forward_of c) t)) (forward_modulus c)
      (layouts_are_good (forward_of c) t (forward_tree c t valid h) (forward_fits c t valid h));
  factor = factor_good c valid c.kind refl;
}
