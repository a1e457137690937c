-- The trees that a request admits, of any kind and of one size or of several dimensions, what the request costs by one, and which of
-- them is chosen. An inverse request has the trees of the forward one, and multiplies each item by 1 / n at the end.
use Rattle.std.specs.Prelude.{◌≡◌, ◌≢◌, ℕ, ◌+◌, ◌*◌, ◌%◌, ◌≤◌, ◌⊎◌, ◌==◌, if◌then◌else◌, true, false}
use Rattle.matrix_meaning.specs.declared.Dimensions.{Dimensions}
use Rattle.matrix_meaning.specs.declared.Dimensions.TheVariants.{One}
use Rattle.matrix_meaning.specs.declared.Kind.{Kind}
use Rattle.matrix_meaning.specs.declared.Kind.TheVariants.{Idft}
use Rattle.matrix_meaning.specs.declared.Request.{Request}
use Rattle.matrix_meaning.specs.Parts.{first_of, forward_of, rest_of}
use Rattle.tree_model.specs.Admissible.{CanDivide, Fits, RootFits}
use Rattle.tree_model.specs.Breakdown.{Breakdown, size_of}
use Rattle.tree_model.specs.Cost.{is_plain, mul_cost_of}
use Rattle.tree_model.specs.Order.{ComesBefore}
use Rattle.tree_model.specs.Whole.{IsTreeOf, cost_in}

abbrev pub closing_by : Kind → Request → ℕ
closing_by Idft c = mul_cost_of c * c.size
closing_by kind c = 0

-- what the products at the end cost
abbrev pub closing_cost : Request → ℕ
closing_cost c = closing_by c.kind c

-- What a request costs by a tree. A part of a tree has no products at its end
abbrev pub whole_cost : Request → Breakdown → ℕ
whole_cost c t = cost_in (forward_of c) t + (if size_of t == c.size then closing_cost c else 0)

-- a tree that the request admits
pub record IsWholeTree (c : Request) (t : Breakdown) : Type 0 where
  pub tree : IsTreeOf (forward_of c) t
  pub size : size_of t ≡ c.size
  pub root : is_plain c ≡ false → RootFits c t

-- a tree that may stand in the request: of one size for any node, of several dimensions the whole one
abbrev pub StandsIn : Request → Breakdown → Type 0
StandsIn c t = IsTreeOf (forward_of c) t × (c.size % size_of t ≡ 0)

-- the first of the cheapest trees that the request admits
pub record IsWholeChosen (c : Request) (t : Breakdown) : Type 0 where
  pub tree : IsWholeTree c t
  pub least : (u : Breakdown) → IsWholeTree c u → whole_cost c t ≤ whole_cost c u
  pub first : (u : Breakdown) → IsWholeTree c u → whole_cost c u ≡ whole_cost c t → u ≢ t → ComesBefore t u

-- the least cost of the request's trees
pub record IsWholeLeast (c : Request) (k : ℕ) : Type 0 where
  pub reached : (t : Breakdown) × IsWholeTree c t × (whole_cost c t ≡ k)
  pub bound : (u : Breakdown) → IsWholeTree c u → k ≤ whole_cost c u

-- processors and lanes share several dimensions between the first one and the others
abbrev pub SharesDimensions : Request → Type 0
SharesDimensions c = (is_plain c ≡ true) ⊎ Fits c (first_of c).size (rest_of c).size

abbrev pub CanDivideBy : Request → Dimensions → Type 0
CanDivideBy c One = CanDivide c
CanDivideBy c several = SharesDimensions c

-- some tree is admitted
abbrev pub CanDivideWhole : Request → Type 0
CanDivideWhole c = CanDivideBy c c.dimensions
