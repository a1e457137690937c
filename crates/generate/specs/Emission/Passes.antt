-- The passes of a node of a tree.
use Rattle.std.specs.Prelude.{ℕ, ◌*◌, if◌then◌else◌, List, [], ◌∷◌, ◌++◌}
use Rattle.matrix_meaning.specs.declared.Kind.{Kind}
use Rattle.matrix_meaning.specs.declared.Kind.TheVariants.{Dft}
use Rattle.matrix_meaning.specs.declared.Request.{Request}
use Rattle.tree_model.specs.Breakdown.{Breakdown, leaf, node, size_of}
use Rattle.tree_model.specs.Cost.{is_kernel, node_root}
use Rattle.tree_model.specs.Trees.{trees_size}
use Rattle.tree_model.specs.Whole.{left_of, right_of, rooted_of}
use Rattle.tree_model.specs.declared.tree.Rule.{Rule}
use Rattle.tree_model.specs.declared.tree.Rule.TheVariants.{Ct}
use Rattle.generate.specs.Emission.Places.{PlaceFunction, after, blocks, columns, inside, left_out, right_in, turn_of}

-- ---- what passes do

-- a short node at once, a longer leaf row by row, or a tile
pub data Work : Type 0 where
  kernel : (request : Request) (tree : Breakdown) → Work
  rows : (root size : ℕ) → Work
  tile : (lanes : ℕ) → Work

abbrev pub work_size : Work → ℕ
work_size (kernel c t) = trees_size (rooted_of c t)
work_size (rows root size) = size
work_size (tile lanes) = lanes * lanes

-- by rows if its transform has powers of a root
abbrev pub long_work : Request → Kind → Breakdown → Work
long_work c Dft t = rows (node_root c (size_of t)) (size_of t)
long_work c kind t = kernel c t

abbrev pub node_work : Request → Breakdown → Work
node_work c t = if is_kernel c (size_of t) then kernel c t else long_work c c.kind t

-- ---- what they multiply by

-- the values of a list, or the twiddles of a ct of r*s places
pub data Diagonal : Type 0 where
  values : (entries : List ℕ) → Diagonal
  twiddles : (r s root : ℕ) → Diagonal

-- by what each word is multiplied before it is stored: nothing, one number, or the entry of a diagonal at this place
pub data Factors : Type 0 where
  none : Factors
  number : (value : ℕ) → Factors
  entries : (diagonal : Diagonal) (place : PlaceFunction) → Factors

-- the factors, where a part's own places stand at these
abbrev pub moved : Factors → PlaceFunction → Factors
moved (entries diagonal place) f = entries diagonal (after place f)
moved factors f = factors

-- a ct multiplies by its twiddles what its right part stores
abbrev pub twiddled : Rule → ℕ → ℕ → ℕ → PlaceFunction → Factors
twiddled Ct r s root place = entries (twiddles r s root) place
twiddled rule r s root place = none

-- ---- passes

-- a node inside of loops: where its first pass loads, where its passes keep words between them, and where and by what
-- factors its last pass stores
pub record Site : Type 0 where
  pub counts : List ℕ
  pub load : PlaceFunction
  pub keep : PlaceFunction
  pub factors : Factors
  pub store : PlaceFunction

-- a pass: its work, at the site of the work's own places
pub record Pass : Type 0 where
  pub site : Site
  pub work : Work

-- a node that keeps words where it stores them
abbrev pub site_by : List ℕ → PlaceFunction → Factors → PlaceFunction → Site
site_by counts load factors at =
    record { counts = counts; load = load; keep = at; factors = factors; store = at }

-- the right part's turns
abbrev pub right_site : Rule → ℕ → ℕ → ℕ → Site → Site
right_site rule r s root o =
    let i = turn_of o.counts r in
    let load = after o.load (right_in rule r s i) in
    site_by (inside o.counts r) load (twiddled rule r s root (blocks s i)) (after o.keep (blocks s i))

-- the left part's turns
abbrev pub left_site : Rule → ℕ → ℕ → Site → Site
left_site rule r s o =
    let out = left_out rule r s (turn_of o.counts s) in
    let keep = after o.keep (columns s (turn_of o.counts s)) in
    let factors = moved o.factors out in
    record { counts = inside o.counts s; load = keep; keep = keep; factors = factors; store = after o.store out }

-- one of a kernel or a leaf; else those of the right part, and then those of the left part
abbrev pub passes : Request → Site → Breakdown → List Pass
passes c o (leaf d) = record { site = o; work = node_work c (leaf d) } ∷ []
passes c o (node rule a b) =
    if is_kernel c (size_of a * size_of b) then record { site = o; work = node_work c (node rule a b) } ∷ []
    else passes (right_of rule c) (right_site rule (size_of a) (size_of b) (node_root c (size_of a * size_of b)) o) b
    ++ passes (left_of rule c) (left_site rule (size_of a) (size_of b) o) a
