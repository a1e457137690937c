-- The grammar of the request line.
use Rattle.std.specs.Prelude.{ℕ, List, [], ◌∷◌, ◌^◌, codes, map, slice_index}
use Rattle.matrix_meaning.specs.declared.Dimension.{Dimension}
use Rattle.matrix_meaning.specs.declared.Dimensions.{Dimensions}
use Rattle.matrix_meaning.specs.declared.Dimensions.TheVariants.{One, Two, Three, Four}
use Rattle.matrix_meaning.specs.declared.Kind.{Kind}
use Rattle.matrix_meaning.specs.declared.Kind.TheVariants.{Dft, Wht, Idft}
use Rattle.matrix_meaning.specs.declared.Request.{Request}
use Rattle.matrix_meaning.specs.Dimensions.{product_of}
use Rattle.grammar.specs.Grammar.{◌>>=◌, pure, one_of, named_number, numbers, parts}

-- each number is below this
abbrev pub above_all : ℕ
above_all = 2 ^ 64

-- what a line can name
abbrev pub kinds : List (List ℕ × Kind)
kinds = (codes "dft ", Dft) ∷ (codes "idft ", Idft) ∷ (codes "wht ", Wht) ∷ []

-- how many sizes may come after the first, each after an x
abbrev pub more_sizes : Kind → ℕ
more_sizes Dft = 3
more_sizes kind = 0

-- a dimension of this size: its root after the word
abbrev pub dimension : List ℕ → ℕ → List ℕ → Dimension → Type 0
dimension word n = do
  w ← named_number word above_all
  pure (record { size = n; root = w })

-- a dimension of each size: the first root after the word, each other one after an x
abbrev pub rooted : List ℕ → List ℕ → List ℕ → List Dimension → Type 0
rooted word [] = pure []
rooted word (n ∷ sizes) = do
  first ← dimension word n
  others ← rooted (codes "x") sizes
  pure (first ∷ others)

-- a dimension without a root
abbrev pub rootless : ℕ → Dimension
rootless n = record { size = n; root = 0 }

abbrev pub dimensions : Kind → List ℕ → List ℕ → List Dimension → Type 0
dimensions Wht sizes = pure (map rootless sizes)
dimensions kind sizes = rooted (codes " root ") sizes

-- the optional parts that bear on costs, in their order, each with its value when absent
abbrev pub cost_parts : List (List ℕ × ℕ)
cost_parts = (codes " unroll ", 8) ∷ (codes " budget ", 100000000) ∷ (codes " weight ", 1) ∷ []

-- all optional parts
abbrev pub optional_parts : List (List ℕ × ℕ)
optional_parts = (codes " procs ", 1) ∷ (codes " line ", 1) ∷ (codes " lanes ", 1) ∷ cost_parts

-- the root of one dimension, and 1 in place of one root of several
abbrev pub root_of : List Dimension → ℕ
root_of (d ∷ []) = d.root
root_of ds = 1

-- the dimensions of a request, where there are two to four
abbrev pub dimensions_of : List Dimension → Dimensions
dimensions_of (a ∷ b ∷ []) = Two a b
dimensions_of (a ∷ b ∷ c ∷ []) = Three a b c
dimensions_of (a ∷ b ∷ c ∷ d ∷ others) = Four a b c d
dimensions_of ds = One

abbrev pub request_of : Kind → List Dimension → (modulus : ℕ) → List ℕ → Request
request_of kind ds modulus options = record {
  kind = kind;
  size = product_of (map (λ (d : Dimension). d.size) ds);
  modulus = modulus;
  root = root_of ds;
  dimensions = dimensions_of ds;
  procs = slice_index options 0;
  line = slice_index options 1;
  lanes = slice_index options 2;
  unroll = slice_index options 3;
  budget = slice_index options 4;
  weight = slice_index options 5;
}

-- the request line, without its end
abbrev pub request_line : List ℕ → Request → Type 0
request_line = do
  kind ← one_of kinds
  sizes ← numbers (codes "x") above_all (more_sizes kind)
  modulus ← named_number (codes " mod ") above_all
  ds ← dimensions kind sizes
  options ← parts above_all optional_parts
  pure (request_of kind ds modulus options)
