-- Trees that requests of one size admit, and their costs.
use Rattle.std.proofs.Common.{◌≡◌, ◌≢◌, ℕ, ◌+◌, ◌==◌, Bool, true, false, if◌then◌else◌, arith, refl, sym, ap, ◌∙◌}
use Rattle.std.proofs.Common.{subst}
use Rattle.std.proofs.lemmas.Bool.{eq-eqb}
use Rattle.matrix_meaning.specs.declared.Dimensions.TheVariants.{One}
use Rattle.matrix_meaning.specs.declared.Kind.{Kind}
use Rattle.matrix_meaning.specs.declared.Kind.TheVariants.{Dft, Wht, Idft}
use Rattle.matrix_meaning.specs.declared.Request.{Request}
use Rattle.matrix_meaning.specs.Parts.{forward_by, forward_of}
use Rattle.tree_model.specs.declared.tree.Rule.{Rule}
use Rattle.tree_model.specs.declared.tree.Rule.TheVariants.{Gt, Ct, Split, Dim}
use Rattle.tree_model.specs.Admissible.{Fits, IsAdmissible, IsChosen, IsLeast, RootFits, RuleFits}
use Rattle.tree_model.specs.Breakdown.{Breakdown, leaf, node, size_of}
use Rattle.tree_model.specs.Chosen.{IsWholeChosen, IsWholeLeast, IsWholeTree, closing_by, closing_cost, whole_cost}
use Rattle.tree_model.specs.Cost.{cost_of, is_plain}
use Rattle.tree_model.specs.Laws.{ChosenOfOne, LeastOfOne, WholeOfOne}
use Rattle.tree_model.specs.Whole.{cost_in}
use Rattle.tree_model.proofs.FlatTrees.{flat_costs, tree_of_one, well_formed}

-- ---- the forward request has the fields of the request

pub by_size : (kind : Kind) (c : Request) → (forward_by kind c).size ≡ c.size
by_size Dft c = refl
by_size Wht c = refl
by_size Idft c = refl

by_dimensions : (kind : Kind) (c : Request) → (forward_by kind c).dimensions ≡ c.dimensions
by_dimensions Dft c = refl
by_dimensions Wht c = refl
by_dimensions Idft c = refl

by_plain : (kind : Kind) (c : Request) → is_plain (forward_by kind c) ≡ is_plain c
by_plain Dft c = refl
by_plain Wht c = refl
by_plain Idft c = refl

pub forward_size : (c : Request) → (forward_of c).size ≡ c.size
forward_size c = by_size c.kind c

pub forward_dimensions : (c : Request) → (forward_of c).dimensions ≡ c.dimensions
forward_dimensions c = by_dimensions c.kind c

pub forward_plain : (c : Request) → is_plain (forward_of c) ≡ is_plain c
forward_plain c = by_plain c.kind c

by_itself : (kind : Kind) (c : Request) → kind ≢ Idft → forward_by kind c ≡ c
by_itself Dft c h = refl
by_itself Wht c h = refl
by_itself Idft c h = absurd (h refl)

-- a request that is no inverse has its own trees
pub forward_itself : (c : Request) → c.kind ≢ Idft → forward_of c ≡ c
forward_itself c h = by_itself c.kind c h

no_closing : (kind : Kind) (c : Request) → kind ≢ Idft → closing_by kind c ≡ 0
no_closing Dft c h = refl
no_closing Wht c h = refl
no_closing Idft c h = absurd (h refl)

pub closing_none : (c : Request) → c.kind ≢ Idft → closing_cost c ≡ 0
closing_none c h = no_closing c.kind c h

-- ---- what fits the one fits the other

fits_forward : (kind : Kind) (c : Request) (r s : ℕ) → Fits c r s → Fits (forward_by kind c) r s
fits_forward Dft c r s h = h
fits_forward Wht c r s h = h
fits_forward Idft c r s h =
    record { left = h.left; right = h.right; product = h.product; procs = h.procs; lanes = h.lanes }

fits_back : (kind : Kind) (c : Request) (r s : ℕ) → Fits (forward_by kind c) r s → Fits c r s
fits_back Dft c r s h = h
fits_back Wht c r s h = h
fits_back Idft c r s h =
    record { left = h.left; right = h.right; product = h.product; procs = h.procs; lanes = h.lanes }

rule_fits : (c d : Request) (rule : Rule) (r s : ℕ) → (Fits c r s → Fits d r s) → RuleFits c rule r s →
    RuleFits d rule r s
rule_fits c d Gt r s f h = h
rule_fits c d Ct r s f h = f h
rule_fits c d Split r s f h = f h
rule_fits c d Dim r s f h = f h

root_fits : (c d : Request) (t : Breakdown) → ((r s : ℕ) → Fits c r s → Fits d r s) → RootFits c t → RootFits d t
root_fits c d (leaf n) f h = h
root_fits c d (node rule a b) f h = rule_fits c d rule (size_of a) (size_of b) (f (size_of a) (size_of b)) h

-- ---- one size

pub admissible_of_whole : (c : Request) (t : Breakdown) → c.dimensions ≡ One → IsWholeTree c t →
    IsAdmissible (forward_of c) t
admissible_of_whole c t one h = record {
  well_formed = well_formed (forward_of c) t (forward_dimensions c ∙ one) h.tree;
  size = h.size ∙ sym (forward_size c);
  root = λ _ spread. root_fits c (forward_of c) t (fits_forward c.kind c) (h.root (sym (forward_plain c) ∙ spread));
}

pub whole_of_admissible : (c : Request) (t : Breakdown) → c.dimensions ≡ One → IsAdmissible (forward_of c) t →
    IsWholeTree c t
whole_of_admissible c t one h = record {
  tree = tree_of_one (forward_of c) t (forward_dimensions c ∙ one) h.well_formed;
  size = h.size ∙ forward_size c;
  root = λ spread. root_fits (forward_of c) c t (fits_back c.kind c) (h.root refl (forward_plain c ∙ spread));
}

pub whole_of_one : WholeOfOne
whole_of_one c t one = (admissible_of_whole c t one, whole_of_admissible c t one)

-- the same of a request that is no inverse
pub whole_is_admissible : (c : Request) (t : Breakdown) → c.dimensions ≡ One → c.kind ≢ Idft → IsWholeTree c t →
    IsAdmissible c t
whole_is_admissible c t one kind h =
    subst (λ p. IsAdmissible p t) (forward_itself c kind) (admissible_of_whole c t one h)

pub admissible_is_whole : (c : Request) (t : Breakdown) → c.dimensions ≡ One → c.kind ≢ Idft → IsAdmissible c t →
    IsWholeTree c t
admissible_is_whole c t one kind h =
    whole_of_admissible c t one (subst (λ p. IsAdmissible p t) (sym (forward_itself c kind)) h)

-- ---- costs

-- what a tree of the whole size costs
pub closed_cost : (c : Request) (t : Breakdown) → size_of t ≡ c.size →
    whole_cost c t ≡ cost_in (forward_of c) t + closing_cost c
closed_cost c t size =
    ap (λ (b : Bool). cost_in (forward_of c) t + (if b then closing_cost c else 0)) (eq-eqb (size_of t) c.size size)

pub cost_of_one : (c : Request) (t : Breakdown) → c.dimensions ≡ One → IsWholeTree c t →
    whole_cost c t ≡ cost_of (forward_of c) t + closing_cost c
cost_of_one c t one h =
    closed_cost c t h.size ∙ ap (λ x. x + closing_cost c)
    (flat_costs (forward_of c) t (forward_dimensions c ∙ one) h.tree)

nothing_added : (x closing : ℕ) (b : Bool) → closing ≡ 0 → x + (if b then closing else 0) ≡ x
nothing_added x closing true e = omega (arith, e)
nothing_added x closing false e = omega arith

-- a request that is no inverse has no products at its end
pub cost_itself : (c : Request) (t : Breakdown) → c.kind ≢ Idft → whole_cost c t ≡ cost_in c t
cost_itself c t kind =
    nothing_added (cost_in (forward_of c) t) (closing_cost c) (size_of t == c.size) (closing_none c kind)
    ∙ ap (λ p. cost_in p t) (forward_itself c kind)

-- ---- the chosen tree, and the least cost

chosen_forward : (c : Request) (t : Breakdown) → c.dimensions ≡ One → IsWholeChosen c t → IsChosen (forward_of c) t
chosen_forward c t one h = record {
  candidate = admissible_of_whole c t one h.tree;
  least = λ u admitted.
      let whole = whole_of_admissible c u one admitted in
      let least = h.least u whole in
      let mine = cost_of_one c t one h.tree in
      let other = cost_of_one c u one whole in
      omega (arith, least, mine, other);
  first = λ u admitted same apart.
      let whole = whole_of_admissible c u one admitted in
      h.first u whole
      (cost_of_one c u one whole ∙ ap (λ x. x + closing_cost c) same ∙ sym (cost_of_one c t one h.tree)) apart;
}

chosen_back : (c : Request) (t : Breakdown) → c.dimensions ≡ One → IsChosen (forward_of c) t → IsWholeChosen c t
chosen_back c t one h = record {
  tree = whole_of_admissible c t one h.candidate;
  least = λ u whole.
      let least = h.least u (admissible_of_whole c u one whole) in
      let mine = cost_of_one c t one (whole_of_admissible c t one h.candidate) in
      let other = cost_of_one c u one whole in
      omega (arith, least, mine, other);
  first = λ u whole same apart.
      let mine = cost_of_one c t one (whole_of_admissible c t one h.candidate) in
      let other = cost_of_one c u one whole in
      h.first u (admissible_of_whole c u one whole) (omega (arith, same, mine, other)) apart;
}

pub chosen_of_one : ChosenOfOne
chosen_of_one c t one = (chosen_forward c t one, chosen_back c t one)

least_back : (c : Request) (k : ℕ) → c.dimensions ≡ One → IsLeast (forward_of c) k → IsWholeLeast c (k + closing_cost c)
least_back c k one h =
    let whole = whole_of_admissible c h.reached.0 one h.reached.1 in
    record {
      reached = (h.reached.0, whole, cost_of_one c h.reached.0 one whole ∙ ap (λ x. x + closing_cost c) h.reached.2);
      bound = λ u other.
          let bound = h.bound u (admissible_of_whole c u one other) in
          let cost = cost_of_one c u one other in
          omega (arith, bound, cost);
    }

least_forward : (c : Request) (k : ℕ) → c.dimensions ≡ One → IsWholeLeast c (k + closing_cost c) →
    IsLeast (forward_of c) k
least_forward c k one h =
    let cost = cost_of_one c h.reached.0 one h.reached.1 in
    let is = h.reached.2 in
    record {
      reached = (h.reached.0, admissible_of_whole c h.reached.0 one h.reached.1, omega (arith, cost, is));
      bound = λ u admitted.
          let whole = whole_of_admissible c u one admitted in
          let bound = h.bound u whole in
          let cost = cost_of_one c u one whole in
          omega (arith, bound, cost);
    }

pub least_of_one : LeastOfOne
least_of_one c k one = (least_back c k one, least_forward c k one)
