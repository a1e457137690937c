-- The terms of a tree that several processors or lanes share, written out from its root: the loops of the right and
-- of the left part, what brings words into groups of lanes and out of them, and what moves lines between processors.
use Rattle.std.specs.Prelude.{ℕ, ◌*◌, ◌/◌, ◌==◌, if◌then◌else◌, List, [], ◌∷◌, ◌++◌, map}
use Rattle.std.specs.List.{flat_map}
use Rattle.index_fn.specs.Mapping.{Mapping, Strided, ThomasIn, ThomasBack}
use Rattle.sigma_spl.specs.Work.{PlainWork, tile}
use Rattle.smp_rewrite.specs.Smp.{within}
use Rattle.smp_rewrite.specs.Layout.Tree.{Layout, work, by, layout_size}
use Rattle.operators.specs.declared.target.Target.{Target}
use Rattle.smp_rewrite.specs.Layout.Step.{PlainCore, piece, turns, twiddles, thomas_in, thomas_out, PlainStep}
use Rattle.smp_rewrite.specs.Layout.Step.{steps_of}
use Rattle.operators.specs.declared.paths.Tensor.TheVariants.{Blocks, Columns}
use Rattle.operators.specs.Paths.Tensors.{Path}
use Rattle.tree_model.specs.declared.tree.Rule.{Rule}
use Rattle.tree_model.specs.declared.tree.Rule.TheVariants.{Gt, Ct, Split, Dim}
use Rattle.sigma_lower.specs.TreeTerms.Term.{PlainTerm, gath, scat, diag, nest, lowered}
use Rattle.sigma_lower.specs.TreeTerms.Wrapped.{wrapped, unit_of}

-- ---- the tensors round the parts of a root of r * s, for p processors and v lanes

-- round the right part, of which there are r copies
abbrev pub right_path : ℕ → ℕ → ℕ → Path
right_path p v r = within (Blocks p) (within (Columns v) (within (Blocks (r / p / v)) []))

-- round the left part, of which there are s copies: as the processors share it, and as a whole
abbrev pub left_path : ℕ → ℕ → ℕ → Path
left_path p v s = within (Blocks p) (within (Columns v) (within (Columns (s / p / v)) []))

abbrev pub whole_path : ℕ → ℕ → Path
whole_path v s = within (Columns v) (within (Columns (s / v)) [])

-- round a tile
abbrev pub tile_path : ℕ → ℕ → ℕ → ℕ → Path
tile_path p v r s = within (Blocks p) (within (Blocks (r / p / v)) (within (Blocks (s / v)) []))

-- ---- permutations of lines and vectors

-- the root's permutation L(r * s, r): of lines between processors, and of vectors in each one's block
abbrev pub lines_moved : ℕ → ℕ → ℕ → ℕ → Mapping
lines_moved p v r s = wrapped (within (Columns v) (within (Columns (r / p / v)) [])) (p * s) (Strided p s)

abbrev pub vectors_turned : ℕ → ℕ → ℕ → ℕ → Mapping
vectors_turned p v r s = wrapped (within (Blocks p) (within (Columns v) [])) (r / p / v * s) (Strided (r / p / v) s)

abbrev pub turned_in : ℕ → ℕ → ℕ → ℕ → List PlainTerm
turned_in p v r s = (if p == 1 then [] else gath (lines_moved p v r s) ∷ []) ++ gath (vectors_turned p v r s) ∷ []

-- the vectors of a group, tile by tile
abbrev pub vectors_grouped : ℕ → ℕ → ℕ → ℕ → ℕ → Mapping
vectors_grouped size p v r s =
    wrapped (within (Columns v) (within (Blocks p) (within (Blocks (r / p / v)) []))) size (Strided (s / v) v)

-- rows side by side, and one after the other again
abbrev pub tiled_before : ℕ → ℕ → ℕ → ℕ → List PlainTerm
tiled_before p v r s =
    if v == 1 then [] else gath (vectors_grouped (s / v * v) p v r s) ∷ nest (tile_path p v r s) (tile v) ∷ []

abbrev pub tiled_after : ℕ → ℕ → ℕ → ℕ → List PlainTerm
tiled_after p v r s =
    if v == 1 then [] else nest (tile_path p v r s) (tile v) ∷ scat (vectors_grouped (v * (s / v)) p v r s) ∷ []

-- ---- the left part, of m * s words

-- the lines of each processor's copies of a matrix of m words, between their own order and the processors' blocks
abbrev pub lines_dealt : ℕ → ℕ → ℕ → ℕ → ℕ → Mapping
lines_dealt size p v m s = wrapped (within (Columns v) (within (Columns (s / p / v)) [])) size (Strided p m)

abbrev pub left_piece : ℕ → ℕ → ℕ → ℕ → Path → PlainWork → List PlainTerm
left_piece p v m s path w =
    if p == 1 then nest (left_path p v s ++ path) w ∷ []
    else gath (lines_dealt (p * m) p v m s) ∷ nest (left_path p v s ++ path) w ∷ scat (lines_dealt (m * p) p v m s) ∷ []

-- the terms of a step of the left part, whose path is that inside of it
abbrev pub left_core : ℕ → ℕ → ℕ → ℕ → Path → PlainCore → List PlainTerm
left_core p v m s path (piece w) = left_piece p v m s path w
left_core p v m s path (turns a b) = gath (wrapped (whole_path v s ++ path) (a * b) (Strided a b)) ∷ []
left_core p v m s path (twiddles a b w) = diag (Columns s ∷ path) a b w ∷ []
left_core p v m s path (thomas_in a b) = gath (wrapped (whole_path v s ++ path) (a * b) (ThomasIn a b)) ∷ []
left_core p v m s path (thomas_out a b) =
    scat (wrapped (whole_path v s ++ path) (a * b) (ThomasBack a b (unit_of a b) (unit_of b a))) ∷ []

abbrev pub left_terms : ℕ → ℕ → ℕ → ℕ → List PlainStep → List PlainTerm
left_terms p v m s steps = flat_map (λ (e : PlainStep). left_core p v m s e.path e.core) steps

-- ---- the root

-- the terms of the right part of a root w with what stands round it
abbrev pub right_terms : ℕ → ℕ → Rule → ℕ → Layout → Layout → List PlainTerm
right_terms p v Gt w a b = []
right_terms p v Ct w a b =
    turned_in p v (layout_size a) (layout_size b)
    ++ (map lowered (steps_of (right_path p v (layout_size a)) b)
    ++ (tiled_after p v (layout_size a) (layout_size b) ++ diag [] (layout_size a) (layout_size b) w ∷ []))
right_terms p v Split w a b =
    tiled_before p v (layout_size a) (layout_size b)
    ++ (map lowered (steps_of (right_path p v (layout_size a)) b)
    ++ tiled_after p v (layout_size a) (layout_size b))
right_terms p v Dim w a b =
    tiled_before p v (layout_size a) (layout_size b)
    ++ (map lowered (steps_of (right_path p v (layout_size a)) b)
    ++ tiled_after p v (layout_size a) (layout_size b))

-- in phases: one processor has one, several have one for each part
abbrev pub in_phases : ℕ → List PlainTerm → List PlainTerm → List (List PlainTerm)
in_phases p first second = if p == 1 then (first ++ second) ∷ [] else first ∷ second ∷ []

abbrev pub root_terms : Target → Layout → List (List PlainTerm)
root_terms h (work w) = []
root_terms h (by rule root a b) =
    in_phases h.procs (right_terms h.procs h.lanes rule root a b)
    (left_terms h.procs h.lanes (layout_size a) (layout_size b) (steps_of [] a))
