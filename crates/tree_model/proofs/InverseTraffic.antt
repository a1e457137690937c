-- The passes of a tree are the same by any root, and load and store the same.
use Rattle.std.proofs.Common.{◌≡◌, ℕ, ◌+◌, ◌*◌, true, false, List, [], ◌∷◌, ◌++◌, length, refl, ap, ap₂, ◌∙◌}
use Rattle.std.proofs.Common.{if◌then◌else◌, nat_le}
use Rattle.matrix_meaning.specs.declared.Kind.{Kind}
use Rattle.matrix_meaning.specs.declared.Kind.TheVariants.{Dft}
use Rattle.matrix_meaning.specs.declared.Request.{Request}
use Rattle.tree_model.specs.declared.tree.Rule.TheVariants.{Gt, Ct, Split, Dim}
use Rattle.tree_model.specs.Breakdown.{Breakdown, leaf, node, size_of}
use Rattle.tree_model.specs.Cost.{is_kernel}
use Rattle.tree_model.specs.Passes.{Pass, nodes, tiles, twiddle_by, passes_of, node_loads, pass_loads, tiled_passes}
use Rattle.tree_model.specs.Passes.{loads_in, whole_passes}
use Rattle.matrix_meaning.specs.Parts.{inverted}
use Rattle.tree_model.specs.Inverses.{InverseLoads, InverseStores}

module _ (c : Request) (k : Kind) (v : ℕ) where
  abbrev other : Request
  other = record c { kind = k; root = v }

  passes-same : (count : ℕ) (t : Breakdown) → passes_of other count t ≡ passes_of c count t
  passes-same count (leaf d) = refl
  passes-same count (node rule a b) =
      ap₂ (λ xs ys. if is_kernel c (size_of a * size_of b) then nodes count (node rule a b) false ∷ [] else twiddle_by rule xs ++ ys)
      (passes-same (count * size_of a) b) (passes-same (count * size_of b) a)

  tiled-same : (t : Breakdown) → tiled_passes other t ≡ tiled_passes c t
  tiled-same (leaf d) = refl
  tiled-same (node Gt a b) = passes-same 1 (node Gt a b)
  tiled-same (node Ct a b) = ap₂ (λ xs ys. xs ++ (tiles true ∷ ys)) (passes-same (size_of a) b) (passes-same (size_of b) a)
  tiled-same (node Split a b) = ap₂ (λ xs ys. tiles false ∷ (xs ++ (tiles false ∷ ys))) (passes-same (size_of a) b) (passes-same (size_of b) a)
  tiled-same (node Dim a b) = ap₂ (λ xs ys. tiles false ∷ (xs ++ (tiles false ∷ ys))) (passes-same (size_of a) b) (passes-same (size_of b) a)

  pub whole-same : (t : Breakdown) → whole_passes other t ≡ whole_passes c t
  whole-same t = ap₂ (λ xs ys. if nat_le c.lanes 1 then xs else ys) (passes-same 1 t) (tiled-same t)

  node-same : (t : Breakdown) → node_loads other c.size t ≡ node_loads c c.size t
  node-same (leaf d) = refl
  node-same (node rule a b) = refl

  pub pass-same : (p : Pass) → pass_loads other c.size p ≡ pass_loads c c.size p
  pass-same (nodes count t twiddled) = node-same t
  pass-same (tiles twiddled) = refl

  loads-same : (ps : List Pass) → loads_in other ps ≡ loads_in c ps
  loads-same [] = refl
  loads-same (p ∷ ps) = ap₂ (λ x y. x + y) (pass-same p) (loads-same ps)

pub inverse_loads : InverseLoads
inverse_loads c t = loads-same c Dft (inverted c).root (whole_passes (inverted c) t) ∙ ap (loads_in c) (whole-same c Dft (inverted c).root t)

pub inverse_stores : InverseStores
inverse_stores c t = ap (λ ps. c.size * length ps) (whole-same c Dft (inverted c).root t)
