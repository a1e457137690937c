-- How trees of requests are made of trees of one size.
use Rattle.std.specs.Prelude.{◌≡◌, ◌≢◌, ℕ, ◌+◌, ◌*◌, ◌↔◌, List, sum_by}
use Rattle.matrix_meaning.specs.Asked.{asked_of}
use Rattle.matrix_meaning.specs.declared.Dimensions.TheVariants.{One}
use Rattle.matrix_meaning.specs.declared.Kind.TheVariants.{Idft}
use Rattle.matrix_meaning.specs.declared.Request.{Request}
use Rattle.matrix_meaning.specs.Parts.{first_of, forward_of, rest_of}
use Rattle.matrix_meaning.specs.Valid.{IsInRange, IsValid}
use Rattle.tree_model.specs.declared.tree.Rule.TheVariants.{Dim}
use Rattle.tree_model.specs.Admissible.{IsAdmissible, IsChosen, IsLeast}
use Rattle.tree_model.specs.Breakdown.{Breakdown, node, size_of, IsWellFormed}
use Rattle.tree_model.specs.Cost.{cost_of}
use Rattle.tree_model.specs.Chosen.{CanDivideWhole, IsWholeChosen, IsWholeLeast, IsWholeTree, closing_cost, whole_cost}
use Rattle.tree_model.specs.Whole.{IsTreeOf, cost_in, node_on}
use Rattle.tree_model.specs.WholePasses.{cost_of_pass, request_passes}

-- of one size the trees of a request are those of its kind
abbrev pub FlatTrees : Type 0
FlatTrees = (p : Request) (t : Breakdown) → p.dimensions ≡ One → IsTreeOf p t ↔ IsWellFormed p.kind t

-- and cost the same
abbrev pub FlatCosts : Type 0
FlatCosts = (p : Request) (t : Breakdown) → p.dimensions ≡ One → IsTreeOf p t → cost_in p t ≡ cost_of p t

-- a request of one size admits the trees of the forward one
abbrev pub WholeOfOne : Type 0
WholeOfOne =
    (c : Request) (t : Breakdown) → c.dimensions ≡ One → IsWholeTree c t ↔ IsAdmissible (forward_of c) t

-- its chosen tree is that of the forward one
abbrev pub ChosenOfOne : Type 0
ChosenOfOne =
    (c : Request) (t : Breakdown) → c.dimensions ≡ One → IsWholeChosen c t ↔ IsChosen (forward_of c) t

-- its least cost is that of the forward one, and what the products at the end cost
abbrev pub LeastOfOne : Type 0
LeastOfOne =
    (c : Request) (k : ℕ) → c.dimensions ≡ One → IsLeast (forward_of c) k ↔ IsWholeLeast c (k + closing_cost c)

-- the chosen tree of several dimensions is made of those of the first one and of the others
abbrev pub ChosenOfParts : Type 0
ChosenOfParts =
    (c : Request) (a b : Breakdown) → IsInRange c → c.dimensions ≢ One → CanDivideWhole c →
    IsWholeChosen c (node Dim a b) ↔ (IsWholeChosen (first_of c) a × IsWholeChosen (rest_of c) b)

-- what two least costs come to together
abbrev pub IsSumOfLeast : Request → ℕ → Type 0
IsSumOfLeast c k =
    (x y : ℕ) × IsWholeLeast (first_of c) x × IsWholeLeast (rest_of c) y
    × (k ≡ (rest_of c).size * x + (first_of c).size * y)

-- the least cost of several dimensions is made of those of the first one and of the others
abbrev pub LeastOfParts : Type 0
LeastOfParts =
    (c : Request) (k : ℕ) → IsInRange c → c.dimensions ≢ One → CanDivideWhole c → IsWholeLeast c k ↔ IsSumOfLeast c k

-- every tree of several dimensions is a dim, of trees that the requests for the first one and for the others admit
abbrev pub WholeOfParts : Type 0
WholeOfParts =
    (c : Request) (t : Breakdown) → IsInRange c → c.dimensions ≢ One → IsWholeTree c t →
    (a b : Breakdown) × (t ≡ node Dim a b) × IsWholeTree (first_of c) a × IsWholeTree (rest_of c) b

-- a tree of a request that is no inverse does what the request asks for
abbrev pub NodesDoWhatIsAsked : Type 0
NodesDoWhatIsAsked =
    (c : Request) (t : Breakdown) (x : List ℕ) → IsValid c → c.kind ≢ Idft → IsTreeOf c t → size_of t ≡ c.size →
    node_on c t x ≡ asked_of c x

-- the passes of a whole tree have its cost
abbrev pub PassesDoTheCost : Type 0
PassesDoTheCost =
    (c : Request) (t : Breakdown) → IsValid c → IsWholeTree c t →
    sum_by (cost_of_pass c.size) (request_passes c t) ≡ whole_cost c t
