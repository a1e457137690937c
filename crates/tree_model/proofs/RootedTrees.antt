-- Trees with the roots of their nodes have the size of the tree, and their sizes are words where the tree's are.
use Rattle.std.proofs.Common.{◌≡◌, ◌*◌, ◌^◌, ◌<◌, refl, ap, subst}
use Rattle.matrix_meaning.specs.declared.Request.{Request}
use Rattle.matrix_meaning.specs.Parts.{rest_of}
use Rattle.tree_model.specs.Breakdown.{Breakdown, leaf, node, size_of, HasWordSizes}
use Rattle.tree_model.specs.Trees.{trees_size, AreWords}
use Rattle.tree_model.specs.Whole.{rooted_of}
use Rattle.tree_model.specs.declared.tree.Rule.TheVariants.{Gt, Ct, Split, Dim}

pub rooted_size : (p : Request) (t : Breakdown) → trees_size (rooted_of p t) ≡ size_of t
rooted_size p (leaf d) = refl
rooted_size p (node Gt a b) = refl
rooted_size p (node Ct a b) = refl
rooted_size p (node Split a b) = refl
rooted_size p (node Dim a b) = ap (λ n. size_of a * n) (rooted_size (rest_of p) b)

pub rooted_words : (p : Request) (t : Breakdown) → AreWords (rooted_of p t) → HasWordSizes t
rooted_words p (leaf d) h = h
rooted_words p (node Gt a b) h = h
rooted_words p (node Ct a b) h = h
rooted_words p (node Split a b) h = h
rooted_words p (node Dim a b) h =
    (h.0, rooted_words (rest_of p) b h.1, subst (λ n. size_of a * n < 2 ^ 64) (rooted_size (rest_of p) b) h.2)
