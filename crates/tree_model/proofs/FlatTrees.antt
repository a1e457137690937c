-- Trees of requests of one size are those of the kind, and cost the same.
use Rattle.std.proofs.Common.{◌≡◌, ℕ, ◌^◌, ◌<◌, ap₂, refl}
use Rattle.matrix_meaning.specs.declared.Dimensions.TheVariants.{One}
use Rattle.matrix_meaning.specs.declared.Kind.{Kind}
use Rattle.matrix_meaning.specs.declared.Kind.TheVariants.{Dft, Wht, Idft}
use Rattle.matrix_meaning.specs.declared.Request.{Request}
use Rattle.matrix_meaning.specs.Parts.{first_of, rest_of}
use Rattle.tree_model.specs.declared.tree.Rule.TheVariants.{Gt, Ct, Split, Dim}
use Rattle.tree_model.specs.Breakdown.{Breakdown, leaf, node, size_of, AllowsRule, IsTree, IsWellFormed, HasWordSizes}
use Rattle.tree_model.specs.Cost.{node_cost}
use Rattle.tree_model.specs.Laws.{FlatCosts, FlatTrees}
use Rattle.tree_model.specs.Whole.{IsTreeOf}
use Rattle.tree_model.proofs.Sizes.{one_le_size_of, word_sizes_of}

-- the root is no dim
abbrev pub IsFlat : Breakdown → Type 0
IsFlat (leaf d) = Unit {0}
IsFlat (node Gt a b) = Unit {0}
IsFlat (node Ct a b) = Unit {0}
IsFlat (node Split a b) = Unit {0}
IsFlat (node Dim a b) = ⊥

-- no kind takes a transform of one size apart by dim
pub no_dim : (kind : Kind) (r s : ℕ) → AllowsRule kind Dim r s → ⊥
no_dim Dft r s h = h
no_dim Wht r s h = h
no_dim Idft r s h = h

pub well_formed : (p : Request) (t : Breakdown) → p.dimensions ≡ One → IsTreeOf p t → IsWellFormed p.kind t
well_formed p (leaf d) one h = h.1
well_formed p (node Gt a b) one h =
    (record { left = h.0; right = h.1; allowed = h.2.1 }, well_formed p a one h.3, well_formed p b one h.4)
well_formed p (node Ct a b) one h =
    (record { left = h.0; right = h.1; allowed = h.2.1 }, well_formed p a one h.3, well_formed p b one h.4)
well_formed p (node Split a b) one h =
    (record { left = h.0; right = h.1; allowed = h.2.1 }, well_formed p a one h.3, well_formed p b one h.4)
well_formed p (node Dim a b) one h = absurd (h.2.0 one)

pub tree_of_one : (p : Request) (t : Breakdown) → p.dimensions ≡ One → IsWellFormed p.kind t → IsTreeOf p t
tree_of_one p (leaf d) one h = (one, h)
tree_of_one p (node Gt a b) one h =
    (h.0.left, h.0.right, (one, h.0.allowed), tree_of_one p a one h.1, tree_of_one p b one h.2)
tree_of_one p (node Ct a b) one h =
    (h.0.left, h.0.right, (one, h.0.allowed), tree_of_one p a one h.1, tree_of_one p b one h.2)
tree_of_one p (node Split a b) one h =
    (h.0.left, h.0.right, (one, h.0.allowed), tree_of_one p a one h.1, tree_of_one p b one h.2)
tree_of_one p (node Dim a b) one h = absurd (no_dim p.kind (size_of a) (size_of b) h.0.allowed)

pub flat_trees : FlatTrees
flat_trees p t one = (well_formed p t one, tree_of_one p t one)

pub flat_costs : FlatCosts
flat_costs p (leaf d) one h = refl
flat_costs p (node Gt a b) one h =
    ap₂ (node_cost p Gt (size_of a) (size_of b)) (flat_costs p a one h.3) (flat_costs p b one h.4)
flat_costs p (node Ct a b) one h =
    ap₂ (node_cost p Ct (size_of a) (size_of b)) (flat_costs p a one h.3) (flat_costs p b one h.4)
flat_costs p (node Split a b) one h =
    ap₂ (node_cost p Split (size_of a) (size_of b)) (flat_costs p a one h.3) (flat_costs p b one h.4)
flat_costs p (node Dim a b) one h = absurd (h.2.0 one)

-- ---- the sizes of a tree, whatever its dimensions

pub is_tree : (p : Request) (t : Breakdown) → IsTreeOf p t → IsTree t
is_tree p (leaf d) h = one_le_size_of p.kind (leaf d) h.1
is_tree p (node Gt a b) h = (h.0, h.1, is_tree p a h.3, is_tree p b h.4)
is_tree p (node Ct a b) h = (h.0, h.1, is_tree p a h.3, is_tree p b h.4)
is_tree p (node Split a b) h = (h.0, h.1, is_tree p a h.3, is_tree p b h.4)
is_tree p (node Dim a b) h = (h.0, h.1, is_tree (first_of p) a h.3, is_tree (rest_of p) b h.4)

pub tree_word_sizes : (p : Request) (t : Breakdown) → IsTreeOf p t → size_of t < 2 ^ 64 → HasWordSizes t
tree_word_sizes p t h fits = word_sizes_of t (is_tree p t h) fits
