-- The whole of a request: the layout of its tree, and the factor
-- of an inverse, by which each word is multiplied at the end.
use Rattle.std.specs.Prelude.{◌≡◌, ℕ, ◌+◌, ◌*◌, ◌<◌, List, Option, Some, None}
use Rattle.matrix_meaning.specs.Asked.{asked_of}
use Rattle.matrix_meaning.specs.declared.Kind.{Kind}
use Rattle.matrix_meaning.specs.declared.Kind.TheVariants.{Dft, Wht, Idft}
use Rattle.matrix_meaning.specs.declared.Request.{Request}
use Rattle.matrix_meaning.specs.Parts.{forward_of}
use Rattle.matrix_meaning.specs.Valid.{IsValid}
use Rattle.operators.specs.Operator.{Operator, scale}
use Rattle.ring_mod.specs.Inverse.{inverse_mod}
use Rattle.smp_rewrite.specs.Layout.Tree.{Layout, layout_size, layout_on, layout_cost, layout_of, IsGoodLayout}
use Rattle.tree_model.specs.Breakdown.{Breakdown}
use Rattle.tree_model.specs.Chosen.{IsWholeTree, whole_cost}

pub record Whole : Type 0 where
  pub layout : Layout
  pub factor : Option ℕ

-- a layout with no factor after it
abbrev pub only : Layout → Whole
only l = record { layout = l; factor = None }

-- each of n words times the factor
abbrev pub closed_on : ℕ → ℕ → Option ℕ → Operator
closed_on m n None x = x
closed_on m n (Some v) x = scale m n (λ _. v) x

-- what these products cost
abbrev pub closing_cost : ℕ → ℕ → Option ℕ → ℕ
closing_cost weight n None = 0
closing_cost weight n (Some v) = weight * n

-- the factor is a residue
abbrev pub IsGoodFactor : ℕ → Option ℕ → Type 0
IsGoodFactor m None = Unit {0}
IsGoodFactor m (Some v) = v < m

-- what the whole does to a list, modulo m
abbrev pub whole_on : ℕ → Whole → Operator
whole_on m w x = closed_on m (layout_size w.layout) w.factor (layout_on m w.layout x)

-- its operations, where a product counts as `weight`
abbrev pub whole_operations : ℕ → ℕ → Whole → ℕ
whole_operations weight m w = layout_cost weight m w.layout + closing_cost weight (layout_size w.layout) w.factor

-- a whole of which a program can be made
pub record IsGoodWhole (m : ℕ) (w : Whole) : Type 0 where
  pub layout : IsGoodLayout m w.layout
  pub factor : IsGoodFactor m w.factor

-- ---- the whole of a request

-- an inverse is divided by its size
abbrev pub factor_by : Kind → Request → Option ℕ
factor_by Dft c = None
factor_by Wht c = None
factor_by Idft c = Some (inverse_mod c.modulus c.size)

abbrev pub whole_of : Request → Breakdown → Whole
whole_of c t = record { layout = layout_of (forward_of c) t; factor = factor_by c.kind c }

-- the whole of a tree does what its request asks for
abbrev pub WholesDo : Type 0
WholesDo =
    (c : Request) (t : Breakdown) (x : List ℕ) → IsValid c → IsWholeTree c t →
    whole_on c.modulus (whole_of c t) x ≡ asked_of c x

-- it costs what the request costs by the tree
abbrev pub WholesCost : Type 0
WholesCost =
    (c : Request) (t : Breakdown) → IsValid c → IsWholeTree c t →
    whole_operations c.weight c.modulus (whole_of c t) ≡ whole_cost c t

-- and a program can be made of it
abbrev pub WholesAreGood : Type 0
WholesAreGood = (c : Request) (t : Breakdown) → IsValid c → IsWholeTree c t → IsGoodWhole c.modulus (whole_of c t)
