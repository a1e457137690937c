-- The passes of a root that several processors or lanes share.
use Rattle.std.specs.Prelude.{ℕ, ◌*◌, ◌/◌, ◌==◌, if◌then◌else◌, List, [], ◌∷◌, ◌++◌}
use Rattle.matrix_meaning.specs.declared.Request.{Request}
use Rattle.perm_algebra.specs.Affine.{Sum, scaled, added}
use Rattle.tree_model.specs.Breakdown.{Breakdown, leaf, node, size_of}
use Rattle.tree_model.specs.Cost.{node_root}
use Rattle.tree_model.specs.Whole.{left_of, right_of}
use Rattle.tree_model.specs.declared.tree.Rule.{Rule}
use Rattle.tree_model.specs.declared.tree.Rule.TheVariants.{Ct}
use Rattle.generate.specs.Emission.Passes.{Factors, Pass, Site, moved, none, passes, site_by, tile, twiddled}
use Rattle.generate.specs.Emission.Places.{PlaceFunction, after, blocks, columns, inside, turn_of}

-- ---- processors and lanes are the outermost loops

abbrev pub processor_loops : Request → List ℕ
processor_loops c = inside [] c.procs

abbrev pub lane_loops : Request → List ℕ
lane_loops c = inside (processor_loops c) c.lanes

-- n turns, as many at a time as there are lanes: what a processor takes of them, one after the other
abbrev pub share : Request → ℕ → ℕ
share c n = n / c.lanes / c.procs

-- the loops with that of the turns inside of these, and which turn it is
abbrev pub turns : Request → ℕ → List ℕ → List ℕ
turns c n counts = inside counts (share c n)

abbrev pub shared : Request → ℕ → List ℕ → Sum
shared c n counts = added (scaled (share c n) (turn_of [] c.procs)) (turn_of counts (share c n))

-- a word of the vector number i: i*v + lane
abbrev pub in_lanes : Request → Sum → Sum
in_lanes c i = added (scaled c.lanes i) (turn_of (processor_loops c) c.lanes)

-- ---- the right part: (i*s + k)*v + lane

abbrev pub packed : Request → ℕ → ℕ → PlaceFunction
packed c r s counts k = in_lanes c (blocks s (shared c r (lane_loops c)) counts k)

-- a ct's loads by strides; the others' after tiles
abbrev pub root_in : Rule → Request → ℕ → ℕ → PlaceFunction
root_in Ct c r s = columns r (in_lanes c (shared c r (lane_loops c)))
root_in rule c r s = packed c r s

-- with lanes the twiddles come with the tiles
abbrev pub right_root : Rule → Request → ℕ → ℕ → ℕ → Site
right_root rule c r s root =
    let factors = if c.lanes == 1 then twiddled rule r s root (packed c r s) else none in
    site_by (turns c r (lane_loops c)) (root_in rule c r s) factors (packed c r s)

-- ---- the left part: k*s + j*v + lane

abbrev pub strided : Request → ℕ → PlaceFunction
strided c s = columns s (in_lanes c (shared c s (lane_loops c)))

abbrev pub left_root : Request → ℕ → Factors → Site
left_root c s factors = site_by (turns c s (lane_loops c)) (strided c s) (moved factors (strided c s)) (strided c s)

-- ---- tiles: vectors along the right part's turns, and across them

-- which row of tiles, where a row takes as many of the right part's turns as there are lanes, and which tile in it
abbrev pub tile_row : Request → ℕ → Sum
tile_row c r = shared c r (processor_loops c)

abbrev pub tile_column : Request → ℕ → ℕ → Sum
tile_column c r s = turn_of (turns c r (processor_loops c)) (s / c.lanes)

-- (i*s + j*v + k)*v
abbrev pub along : Request → ℕ → ℕ → PlaceFunction
along c r s counts k = scaled c.lanes (blocks s (tile_row c r) counts (blocks c.lanes (tile_column c r s) counts k))

-- (i*v + k)*s + j*v
abbrev pub across : Request → ℕ → ℕ → PlaceFunction
across c r s = after (columns s (scaled c.lanes (tile_column c r s))) (blocks c.lanes (tile_row c r))

abbrev pub tiles : Request → ℕ → ℕ → PlaceFunction → Factors → PlaceFunction → List Pass
tiles c r s load factors store =
    let site = site_by (inside (turns c r (processor_loops c)) (s / c.lanes)) load factors store in
    if c.lanes == 1 then [] else record { site = site; work = tile c.lanes } ∷ []

-- a ct takes its columns without tiles
abbrev pub tiles_before : Rule → Request → ℕ → ℕ → List Pass
tiles_before Ct c r s = []
tiles_before rule c r s = tiles c r s (across c r s) none (along c r s)

abbrev pub tiles_after : Rule → Request → ℕ → ℕ → ℕ → List Pass
tiles_after rule c r s root = tiles c r s (along c r s) (twiddled rule r s root (across c r s)) (across c r s)

-- ---- the phases: several processors have one for each part

abbrev pub root_phases : Request → Factors → Breakdown → List (List Pass)
root_phases c factors (leaf d) = []
root_phases c factors (node rule a b) =
    let r = size_of a in
    let s = size_of b in
    let root = node_root c (r * s) in
    let right = passes (right_of rule c) (right_root rule c r s root) b in
    let first = tiles_before rule c r s ++ (right ++ tiles_after rule c r s root) in
    let second = passes (left_of rule c) (left_root c s factors) a in
    if c.procs == 1 then (first ++ second) ∷ [] else first ∷ second ∷ []
