-- The loops of the layout of a tree count what the forward request's passes do in the cost model.
use Rattle.sigma_lower.proofs.Words.{◌≡◌, ℕ, List, [], ◌∷◌, map, refl, sym, ap, ap₂, ◌∙◌, Counted, whole_passes}
use Rattle.sigma_lower.proofs.Words.{forward_by, forward_of, IsValid, Kind, Idft, Request, pass_cost, pass_loads}
use Rattle.sigma_lower.proofs.Words.{Layout, layout_of, target_of, Breakdown, IsWholeTree, request_passes, merged_of}
use Rattle.sigma_lower.proofs.Words.{PlainNest, counted_cost, counted_loads, AllCount, CountsAs, IsForwardTree}
use Rattle.sigma_lower.proofs.Words.{RequestPass, cost_of_pass, loads_of_pass}
use Rattle.sigma_lower.proofs.TreeLoops.LayoutCounts.{layouts_count}
use Rattle.matrix_meaning.proofs.Requests.{forward_is_valid}
use Rattle.smp_rewrite.proofs.LayoutLemmas.Wholes.{forward_fits}
use Rattle.tree_model.proofs.WholeTrees.{forward_size}
use Rattle.sigma_lower.proofs.TreeSigmas.Counting.{layout_costs, layout_loads}
use Rattle.sigma_lower.proofs.TreeSigmas.Owned.{pass_nests}
use Rattle.sigma_lower.proofs.TreeSigmas.TreeHosted.{tree_hosted}

-- ---- the forward request has the request's numbers

costs-same : (kind : Kind) (c : Request) (l : Layout) →
    map (counted_cost c.weight c.modulus c.size) (whole_passes c.lanes l)
    ≡ map (counted_cost (forward_by kind c).weight (forward_by kind c).modulus (forward_by kind c).size)
    (whole_passes (forward_by kind c).lanes l)
costs-same Idft c l = refl
costs-same _ c l = refl

loads-same : (kind : Kind) (c : Request) (l : Layout) →
    map (counted_loads c.size) (whole_passes c.lanes l)
    ≡ map (counted_loads (forward_by kind c).size) (whole_passes (forward_by kind c).lanes l)
loads-same Idft c l = refl
loads-same _ c l = refl

-- ---- pass by pass

all-are : (p : Request) (f : Counted → ℕ) (g : RequestPass → ℕ) →
    ((z : Counted) (q : RequestPass) → CountsAs p z q → f z ≡ g q) → (zs : List Counted) (qs : List RequestPass) →
    AllCount p zs qs → map f zs ≡ map g qs
all-are p f g is [] [] h = refl
all-are p f g is (z ∷ zs) (q ∷ qs) h = ap₂ (λ x xs. x ∷ xs) (is z q h.0) (all-are p f g is zs qs h.1)
all-are p f g is _ _ h = absurd h

-- ---- the loops of the layout

module _ (c : Request) (t : Breakdown) (valid : IsValid c) (h : IsWholeTree c t) where
  abbrev p : Request
  p = forward_of c

  abbrev l : Layout
  l = layout_of p t

  abbrev nests : List (List PlainNest)
  nests = pass_nests (target_of c) (merged_of (target_of c) l)

  forward : IsForwardTree p t
  forward = record {
    valid = forward_is_valid c valid;
    tree = h.tree;
    size = h.size ∙ sym (forward_size c);
    root = forward_fits c t valid h (h.size ∙ sym (forward_size c));
  }

  all : AllCount p (whole_passes p.lanes l) (request_passes p t)
  all = layouts_count p t forward

  pub forward_costs : map (pass_cost c.weight c.modulus) nests ≡ map (cost_of_pass c.size) (request_passes p t)
  forward_costs =
      layout_costs (target_of c) l (tree_hosted c t valid h) c.weight
      ∙ costs-same c.kind c l
      ∙ all-are p (counted_cost p.weight p.modulus p.size) (cost_of_pass p.size) (λ z q h. h.operations)
      (whole_passes p.lanes l) (request_passes p t) all
      ∙ ap (λ n. map (cost_of_pass n) (request_passes p t)) (forward_size c)

  pub forward_loads : map pass_loads nests ≡ map (loads_of_pass c.size) (request_passes p t)
  forward_loads =
      layout_loads (target_of c) l (tree_hosted c t valid h)
      ∙ loads-same c.kind c l
      ∙ all-are p (counted_loads p.size) (loads_of_pass p.size) (λ z q h. h.loads) (whole_passes p.lanes l)
      (request_passes p t) all
      ∙ ap (λ n. map (loads_of_pass n) (request_passes p t)) (forward_size c)
