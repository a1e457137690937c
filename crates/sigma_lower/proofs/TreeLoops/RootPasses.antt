-- The passes of a layout that several processors or lanes share, written out from its root: those of the right part and of the left part, and the tiles beside them.
use Rattle.sigma_lower.proofs.Words.{◌≡◌, ℕ, ◌*◌, ◌/◌, ◌==◌, false, List, [], ◌∷◌, ◌++◌, if◌then◌else◌, map, option_map}
use Rattle.sigma_lower.proofs.Words.{Mapping, Target, PlainDiagonal, PlainPass, new_pass, scattered, multiplied}
use Rattle.sigma_lower.proofs.Words.{at_last, merged_phases, right_path, left_path, whole_path, tile_path, lines_moved}
use Rattle.sigma_lower.proofs.Words.{vectors_turned, vectors_grouped, lines_dealt, tile, wrapped, Columns, Rule, Gt, Ct}
use Rattle.sigma_lower.proofs.Words.{Split, Dim, CanShareLayout, Layout, work, by, layout_size, IsGoodLayout, is_alone}
use Rattle.sigma_lower.proofs.TreeLoops.TreePasses.{layout_passes}

-- ---- the right part, for p processors and v lanes, of a root of r * s

-- the gathers that wait when the right part of a ct begins
abbrev pub turned_waiting : ℕ → ℕ → ℕ → ℕ → List Mapping
turned_waiting p v r s = vectors_turned p v r s ∷ (if p == 1 then [] else lines_moved p v r s ∷ [])

-- the passes over tiles: one before the right part of a split, and one after that of a ct or a split
abbrev pub tile_before : ℕ → ℕ → ℕ → ℕ → PlainPass
tile_before p v r s = new_pass (tile_path p v r s) (tile v) (vectors_grouped (s / v * v) p v r s ∷ [])

abbrev pub tile_after : ℕ → ℕ → ℕ → ℕ → PlainPass
tile_after p v r s = scattered (vectors_grouped (v * (s / v)) p v r s) (new_pass (tile_path p v r s) (tile v) [])

-- none on one lane
abbrev pub if_lanes : ℕ → PlainPass → List PlainPass
if_lanes v p = if v == 1 then [] else p ∷ []

abbrev pub right_passes : ℕ → ℕ → Rule → ℕ → Layout → Layout → List PlainPass
right_passes p v Gt w a b = []
right_passes p v Ct w a b =
    at_last (multiplied [] (layout_size a) (layout_size b) w)
    (layout_passes (right_path p v (layout_size a)) (turned_waiting p v (layout_size a) (layout_size b)) b ++ if_lanes v (tile_after p v (layout_size a) (layout_size b)))
right_passes p v Split w a b =
    if_lanes v (tile_before p v (layout_size a) (layout_size b)) ++ (layout_passes (right_path p v (layout_size a)) [] b ++ if_lanes v (tile_after p v (layout_size a) (layout_size b)))
right_passes p v Dim w a b =
    if_lanes v (tile_before p v (layout_size a) (layout_size b))
    ++ (layout_passes (right_path p v (layout_size a)) [] b
    ++ if_lanes v (tile_after p v (layout_size a) (layout_size b)))

-- ---- the left part, of m * s words: s copies of a matrix of m words

-- a permutation of the m words, as the whole does it to all copies
abbrev pub on_all : ℕ → ℕ → ℕ → Mapping → Mapping
on_all v m s f = wrapped (whole_path v s) m f

-- the lines between their own order and the processors' blocks: none on one processor
abbrev pub if_dealt : ℕ → ℕ → ℕ → ℕ → ℕ → List Mapping
if_dealt size p v m s = if p == 1 then [] else lines_dealt size p v m s ∷ []

abbrev pub left_diagonal : ℕ → ℕ → ℕ → ℕ → PlainDiagonal → PlainDiagonal
left_diagonal p v m s d = record { path = Columns s ∷ d.path; rows = d.rows; cols = d.cols; root = d.root; places = if_dealt (m * p) p v m s ++ map (on_all v m s) d.places }

-- a pass of the left part alone, as the root's pass over all s copies
abbrev pub left_pass : ℕ → ℕ → ℕ → ℕ → PlainPass → PlainPass
left_pass p v m s q =
    record {
      path = left_path p v s ++ q.path;
      work = q.work;
      befores = if_dealt (p * m) p v m s ++ map (on_all v m s) q.befores;
      diagonal = option_map (left_diagonal p v m s) q.diagonal;
      afters = if_dealt (m * p) p v m s ++ map (on_all v m s) q.afters;
    }

abbrev pub left_passes : ℕ → ℕ → ℕ → Layout → List PlainPass
left_passes p v s a = map (left_pass p v (layout_size a) s) (layout_passes [] [] a)

-- ---- the root

-- one phase on one processor, and else one for each part
abbrev pub pass_phases : ℕ → List PlainPass → List PlainPass → List (List PlainPass)
pass_phases p right left = if p == 1 then (right ++ left) ∷ [] else right ∷ left ∷ []

abbrev pub root_passes : Target → Layout → List (List PlainPass)
root_passes c (work w) = []
root_passes c (by rule root a b) = pass_phases c.procs (right_passes c.procs c.lanes rule root a b) (left_passes c.procs c.lanes (layout_size b) a)

-- the passes of a layout that is shared are these
abbrev pub RootPasses : Type 0
RootPasses = (c : Target) (l : Layout) → CanShareLayout c l → IsGoodLayout c.modulus l → is_alone c ≡ false → merged_phases c l ≡ root_passes c l
