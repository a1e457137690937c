-- The parts of a node of a shared request are no wholes that are shared, and a node is of no inverse.
use Rattle.std.proofs.Common.{◌≡◌, ◌≢◌, ℕ, ◌<◌, true, false, sym, subst, ◌∙◌, arith}
use Rattle.kernel_gen.specs.Nodes.{IsNodeTree}
use Rattle.kernel_gen.proofs.NodeTrees.{first_is_part, rest_is_part, left_less, right_less, size-le}
use Rattle.matrix_meaning.specs.declared.Kind.{Kind}
use Rattle.matrix_meaning.specs.declared.Kind.TheVariants.{Dft, Wht, Idft}
use Rattle.matrix_meaning.specs.declared.Request.{Request}
use Rattle.matrix_meaning.specs.Parts.{first_of, rest_of}
use Rattle.matrix_meaning.proofs.Parts.{several_kind}
use Rattle.smp_rewrite.specs.Layout.Meaning.{FitsWhole}
use Rattle.tree_model.specs.Breakdown.{Breakdown, leaf, node, size_of, AllowsLeaf, AllowsRule}
use Rattle.tree_model.specs.Chosen.{StandsIn}
use Rattle.tree_model.specs.Cost.{is_plain}
use Rattle.tree_model.specs.Whole.{left_of, right_of, IsTreeOf}
use Rattle.tree_model.proofs.WholeTrees.{forward_itself}
use Rattle.tree_model.specs.declared.tree.Rule.{Rule}
use Rattle.tree_model.specs.declared.tree.Rule.TheVariants.{Gt, Ct, Split, Dim}

-- so a part is no whole that is shared
smaller : (p : Request) (u t : Breakdown) → size_of u < size_of t → IsNodeTree p t → FitsWhole p u
smaller p u t less h is shared = let high = size-le p t h in absurd (omega (arith, is, less, high))

pub plain_fits : (p : Request) (t : Breakdown) → is_plain p ≡ true → FitsWhole p t
plain_fits p t plain is shared = absurd (let clash : true ≡ false = sym plain ∙ shared in cc)

pub left_fits : (p : Request) (rule : Rule) (a b : Breakdown) → IsNodeTree p (node rule a b) →
    FitsWhole (left_of rule p) a
left_fits p Gt a b h = smaller p a (node Gt a b) (left_less p Gt a b h) h
left_fits p Ct a b h = smaller p a (node Ct a b) (left_less p Ct a b h) h
left_fits p Split a b h = smaller p a (node Split a b) (left_less p Split a b h) h
left_fits p Dim a b h = plain_fits (first_of p) a (first_is_part p h.tree.2.0).plain

pub right_fits : (p : Request) (rule : Rule) (a b : Breakdown) → IsNodeTree p (node rule a b) →
    FitsWhole (right_of rule p) b
right_fits p Gt a b h = smaller p b (node Gt a b) (right_less p Gt a b h) h
right_fits p Ct a b h = smaller p b (node Ct a b) (right_less p Ct a b h) h
right_fits p Split a b h = smaller p b (node Split a b) (right_less p Split a b h) h
right_fits p Dim a b h = plain_fits (rest_of p) b (rest_is_part p h.tree.2.0).plain

-- ---- a tree of a request is of a transform that is no inverse

leaf_kind : (kind : Kind) (d : ℕ) → AllowsLeaf kind d → kind ≢ Idft
leaf_kind Dft d h is = cc
leaf_kind Wht d h is = cc
leaf_kind Idft d h is = h

rule_kind : (kind : Kind) (rule : Rule) (r s : ℕ) → AllowsRule kind rule r s → kind ≢ Idft
rule_kind Dft rule r s h is = cc
rule_kind Wht rule r s h is = cc
rule_kind Idft rule r s h is = absurd h

pub node_kind : (p : Request) (t : Breakdown) → IsNodeTree p t → p.kind ≢ Idft
node_kind p (leaf d) h = leaf_kind p.kind d h.tree.1
node_kind p (node Gt a b) h = rule_kind p.kind Gt (size_of a) (size_of b) h.tree.2.1
node_kind p (node Ct a b) h = rule_kind p.kind Ct (size_of a) (size_of b) h.tree.2.1
node_kind p (node Split a b) h = rule_kind p.kind Split (size_of a) (size_of b) h.tree.2.1
node_kind p (node Dim a b) h = λ is.
    let dft = several_kind p h.valid.in_range h.tree.2.0 in
    let clash : Idft ≡ Dft = sym is ∙ dft in cc

pub node_stands : (p : Request) (t : Breakdown) → IsNodeTree p t → StandsIn p t
node_stands p t h =
    (subst (λ (q : Request). IsTreeOf q t) (sym (forward_itself p (node_kind p t h))) h.tree, h.divides)
